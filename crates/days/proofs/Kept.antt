-- What the steps of a machine have done.
-- Assumes nothing.
use Rattle.std.proofs.Common.{◌≡◌, inl, inr, ◌⊎◌, ℕ, zero, suc, ◌+◌, ◌∷◌, [], List, true, length, map, take_all, slice_index_or, Some, None, Ok, Err, Option, Result, ap, sym, subst, refl, ◌∙◌, arith}
use Rattle.std.proofs.lemmas.Cmp.{nat_cmp_total}
use Rattle.std.proofs.lemmas.Grind.{common_steps}
use Rattle.cutting.specs.Refusals.{number_of}
use Rattle.cutting.specs.Rule.{pieces}
use Rattle.cutting.specs.declared.refusal.Refusal.{Refusal}
use Rattle.cutting.specs.declared.refusal.Refusal.TheVariants.{NoMemory, PieceEmpty, PieceTooLong, TooManyNames}
use Rattle.digest.specs.declared.value.Digest.{Digest}
use Rattle.digest.specs.Digests.{digest_of}
use Rattle.dayfile.specs.Form.{day_file}
use Rattle.store.specs.Asking.{Doing, IsExact}
use Rattle.store.specs.declared.day.DayName.{DayName}
use Rattle.store.specs.Effects.{with_day, with_highest}
use Rattle.store.specs.Loops.{Go, Times, at}
use Rattle.store.specs.Requests.{Highest, Raise}
use Rattle.store.specs.State.{State, last_number}
use Rattle.days.specs.declared.done.Added.{Added as Count}
use Rattle.days.specs.declared.done.Done.{Done as StepDone}
use Rattle.days.specs.declared.done.Done.TheVariants.{Begun, Found, Written, Added, Raised, Named, BrokenOff}
use Rattle.days.specs.Machines.{Work, with_file}
use Rattle.days.specs.Promise.{AllInPlace, OnlyLists, Promised, Steps, file_entry}
use Rattle.days.specs.Steps.{Adds, DayAdds, DayRaises, DaySees, Ends, ForDay, GoesOn, ListsAbsent, Names, NoDay, NotNamed, NotRaised, Raises, Sees, SeesFile, SeesPiece, entry, name, place_path}
use Rattle.store.proofs.Exact.{highest, named, raised}
use Rattle.days.proofs.Cuts.{whole_entry}
use Rattle.days.proofs.Listed.{all_listed, not_looked_for, not_seen_to, still_ready}
use Rattle.days.proofs.Moves.{compares_equal, not_on, on, unmoved}
use Rattle.days.proofs.Seen.{all_seen, each_is_done, each_is_stopped, only_same, only_then, seen_to}

set_highest : (i k : ℕ) (s : State) → (with_highest i k s).highest i ≡ k
set_highest i k s = grind (arith, common_steps)

day_there : (d : DayName) (file : List ℕ) (s : State) → (with_day d (Some file) s).days d ≡ Some file
day_there d file s = rw (compares_equal nat_cmp_total d.machine, compares_equal nat_cmp_total d.number) refl

-- a refusal with a number is none for want of memory
numbered : (r : Refusal) (k : ℕ) → number_of r ≡ Some k → r ≡ NoMemory → ⊥
numbered r k e f =
    let g : None ≡ Some k = sym (ap number_of f) ∙ e in
    cc

-- before the first go
no_times : {S U : Type 0} (go : ℕ → Go S U) (k : ℕ) (s t : S) (u v : U) → k ≡ 0 → Times go k s u t v → t ≡ s
unfolding Times
no_times go zero s t u v e h = h.0
no_times go (suc k) s t u v e h = absurd (omega arith)

module _ {S : Type 0} (does : Doing S) (holds : S → State) (exact : IsExact holds does) where
  one_seen : (i : ℕ) (path p : List ℕ) (w v : Work) (s t : S) (c : Count) → DayAdds does i path (p ∷ []) w s (Ok c) v t → ((holds t).place (digest_of p) ≡ Some p) × (v ≡ with_file (entry path (p ∷ [])) w)
  unfolding Times SeesFile
  one_seen i path p w v s t c (may, (u, listed, all), count, g) =
      let (m, x, before, (b, sees, n)) = each_is_done [] (SeesPiece does i) (p ∷ []) u t 0 c.written all in
      ((seen_to does holds exact i p m t b sees).there, g)

  seen : (i : ℕ) (p : List ℕ) (old new : Option Work) (s t : S) (d : StepDone) → Sees does i p old s (Ok d) new t →
      ((holds t).place (digest_of p) ≡ Some p) × (w : Work) × (old ≡ Some w) × (new ≡ Some (with_file (entry (place_path (length w.files + 1)) (p ∷ [])) w))
  seen i p old new s t d (inl (none, is, same, h)) =
      let f : Ok d ≡ Err PieceEmpty = is in
      absurd cc
  seen i p old new s t d (inr (inl (long, is, same, h))) =
      let f : Ok d ≡ Err PieceTooLong = is in
      absurd cc
  seen i p old new s t d (inr (inr (some, fits, inl (r, is, same, h)))) =
      let f : Ok d ≡ Err r = is in
      absurd cc
  seen i p old new s t d (inr (inr (some, fits, inr (w, e, m, k, (v, f, h))))) = let x = both d h in (x.0, w, e, f ∙ ap Some x.1)
    where
      both : (d : StepDone) → DaySees does i p w m (Ok d) v t → ((holds t).place (digest_of p) ≡ Some p) × (v ≡ with_file (entry (place_path (length w.files + 1)) (p ∷ [])) w)
      both (Found n) (is, c, count, y) = one_seen i _ p w v m t c y
      both (Written n) (is, c, count, y) = one_seen i _ p w v m t c y
      both Begun y = absurd y
      both (Added k) y = absurd y
      both (Raised k) y = absurd y
      both (Named k) y = absurd y
      both BrokenOff y = absurd y

  added : (i : ℕ) (path file : List ℕ) (old new : Option Work) (s t : S) (a : Count) → Adds does i path file old s (Ok (Added a)) new t →
      (w : Work) × (old ≡ Some w) × (new ≡ Some (with_file (file_entry path file) w)) × AllInPlace (holds t) (map digest_of (pieces file)) × (a.pieces ≡ length (pieces file))
  unfolding SeesFile
  added i path file old new s t a (inl (r, is, why, same, h)) =
      let f : Ok (Added a) ≡ Err r = is in
      absurd cc
  added i path file old new s t a (inr (short, is_path, inl (r, is, same, h))) =
      let f : Ok (Added a) ≡ Err r = is in
      absurd cc
  added i path file old new s t a (inr (short, is_path, inr (w, e, m, k, (v, f, (may, (u, listed, all), count, g))))) =
      let ps = pieces file in
      let x = all_seen does holds exact i ps (length ps) u t 0 a.written (omega arith) (each_is_done [] (SeesPiece does i) ps u t 0 a.written all) in
      (w, e, f ∙ ap Some (g ∙ ap (λ y. with_file y w) (whole_entry path file)), subst (λ qs. AllInPlace (holds t) (map digest_of qs)) (take_all (length ps) ps (omega arith)) x, count)

  raises : (i k : ℕ) (old new : Option Work) (s t : S) → Raises does i old s (Ok (Raised k)) new t → (k ≡ (holds s).highest i + 1) × ((holds t).highest i ≡ k)
  raises i k old new s t (inl (r, is, same, h)) =
      let f : Ok (Raised k) ≡ Err r = is in
      absurd cc
  raises i k old new s t (inr (w, e, m, l, (v, f, (o, g, x, below, is, (m', asked, (m'', set, last)))))) =
      let told = highest _ _ i x (exact m m' _ _ asked) in (
        is ∙ ap (λ y. y + 1) (sym told.1 ∙ ap (λ (z : State). z.highest i) (on does holds exact s m i true l).0),
        ap (λ (z : State). z.highest i) (ap holds last ∙ sym (raised _ _ i k (exact m' m'' _ _ set))) ∙ set_highest i k (holds m'),
      )

  names : (i k : ℕ) (old new : Option Work) (s t : S) → Names does i old s (Ok (Named k)) new t →
      (w : Work) × (old ≡ Some w) × (w.number ≡ Some k) × ((holds t).days (record { machine = i; number = k }) ≡ Some (day_file (record { machine = i; number = k }) w.files))
  names i k old new s t (inl (r, is, same, h)) =
      let f : Ok (Named k) ≡ Err r = is in
      absurd cc
  names i k old new s t (inr (w, e, m, l, (f, (n, (m', asked, last))))) =
      let day : DayName = record { machine = i; number = k } in
      let file = day_file day w.files in
      (w, e, n, ap (λ (z : State). z.days day) (ap holds last ∙ sym (named _ _ day file (exact m m' _ _ asked)).1) ∙ day_there day file (holds m))

  no_day : (i : ℕ) (old : Option Work) (s t : S) (r : Refusal) → NoDay does i old s r t → holds t ≡ holds s
  no_day i old s t r (inl n) = not_on does holds exact s t i r n
  no_day i old s t r (inr n) = (on does holds exact s t i true n.2).0

  -- a file is not added: no piece is written, and nothing is changed where the lists are not full, or where it is one piece
  record NotAddedTo (ps : List (List ℕ)) (r : Refusal) (w v : Work) (s t : State) : Type 0 where
    day : v ≡ w
    only : OnlyLists s t
    same : (r ≡ TooManyNames → ⊥) → t ≡ s
    one : length ps ≡ 1 → t ≡ s

  unchanged : (ps : List (List ℕ)) (r : Refusal) (w v : Work) (s t : S) → v ≡ w → t ≡ s → NotAddedTo ps r w v (holds s) (holds t)
  unchanged ps r w v s t g same = record { day = g; only = only_same (ap holds same); same = λ f. ap holds same; one = λ f. ap holds same }

  not_added : (i k : ℕ) (path : List ℕ) (ps : List (List ℕ)) (w v : Work) (s t : S) (r : Refusal) → number_of r ≡ Some k → DayAdds does i path ps w s (Err r) v t → NotAddedTo ps r w v (holds s) (holds t)
  unfolding SeesFile
  not_added i k path ps w v s t r e (g, inl (is, same)) = unchanged ps r w v s t g same
  not_added i k path ps w v s t r e (g, inr (inl (is, same))) = unchanged ps r w v s t g same
  not_added i k path ps w v s t r e (g, inr (inr (inl (n, has, are, is, same)))) = unchanged ps r w v s t g same
  not_added i k path ps w v s t r e (g, inr (inr (inr (may, c, inr (all, is))))) = absurd (numbered r k e is)
  not_added i k path ps w v s t r e (g, inr (inr (inr (may, c, inl (inl unlisted))))) =
      let (j, lt, m, y, times, last) = each_is_stopped [] (ListsAbsent does i) ps s t tt tt r unlisted in
      let before = all_listed does holds exact i ps j s m tt y (omega arith) times in
      let no = not_looked_for does holds exact i (slice_index_or ps j []) m t y tt r last in
      elim no.1 [
        | inl is ↦ absurd (numbered r k e is)
        | inr full ↦
            record {
              day = g;
              only = only_then before.only (only_same no.0);
              same = λ f. absurd (f full);
              one = λ f. no.0 ∙ ap holds (no_times (at [] (ListsAbsent does i) ps) j s m tt y (omega arith) times);
            }
      ]
  not_added i k path ps w v s t r e (g, inr (inr (inr (may, c, inl (inr (m, listed, unseen)))))) =
      let n = length ps in
      let (j, lt, u, y, times, last) = each_is_stopped [] (SeesPiece does i) ps m t 0 c r unseen in
      let ready = (all_listed does holds exact i ps n s m tt tt (omega arith) (each_is_done [] (ListsAbsent does i) ps s m tt tt listed)).ready in
      absurd (numbered r k e (not_seen_to does holds exact i (slice_index_or ps j []) u t r (still_ready does holds exact i ps j m u 0 y (omega arith) ready times j lt) last).1)

  day_not_seen : (i k : ℕ) (p : List ℕ) (w v : Work) (s t : S) (r : Refusal) → number_of r ≡ Some k → DaySees does i p w s (Err r) v t → (holds t ≡ holds s) × (v ≡ w)
  day_not_seen i k p w v s t r e x = let no = not_added i k (place_path (length w.files + 1)) (p ∷ []) w v s t r e x in (no.one refl, no.day)

  day_not_raised : (i : ℕ) (w : Work) (s t : S) (r : Refusal) → NotRaised does i w s r t → holds t ≡ holds s
  day_not_raised i w s t r (inl (n, is, f, same)) = ap holds same
  day_not_raised i w s t r (inr (o, inl x)) = unmoved does holds exact s t (Highest i) r x
  day_not_raised i w s t r (inr (o, inr (inl (is, (m, asked, last))))) = ap holds last ∙ (highest _ _ i last_number (exact s m _ _ asked)).0
  day_not_raised i w s t r (inr (o, inr (inr (x, below, (m, asked, k))))) = unmoved does holds exact m t (Raise i (x + 1)) r k ∙ (highest _ _ i x (exact s m _ _ asked)).0

  day_not_named : (i : ℕ) (w : Work) (s t : S) (r : Refusal) → NotNamed does i w s r t → holds t ≡ holds s
  day_not_named i w s t r (inl (n, is, same)) = ap holds same
  day_not_named i w s t r (inr (k, n, inl (is, same))) = ap holds same
  day_not_named i w s t r (inr (k, n, inr x)) = unmoved does holds exact s t (name i k w) r x

  -- a step for a day that is refused
  for_day : (step : Work → S → Result StepDone Refusal → Option Work → S → Type 0) (i : ℕ) (old new : Option Work) (s t : S) (r : Refusal) →
      ((w : Work) (m : S) → step w m (Err r) new t → (holds t ≡ holds m) × (new ≡ Some w)) → ForDay does i step old s (Err r) new t → (holds t ≡ holds s) × (new ≡ old)
  for_day step i old new s t r f (inl (q, is, same, n)) = (no_day i old s t q n, same)
  for_day step i old new s t r f (inr (w, e, m, l, x)) = let y = f w m x in (y.0 ∙ (on does holds exact s m i true l).0, y.1 ∙ sym e)

  step_refused : (i k : ℕ) (old new : Option Work) (s t : S) (r : Refusal) → number_of r ≡ Some k → Steps does i old s (Err r) new t → (holds t ≡ holds s) × (new ≡ old)
  step_refused i k old new s t r e (inl (same, inl n)) = (not_on does holds exact s t i r n, same)
  step_refused i k old new s t r e (inl (same, inr (w, f, g, l))) = ((on does holds exact s t i true l).0, same)
  step_refused i k old new s t r e (inr (inl (p, inl (none, is, same, f)))) = (ap holds f, same)
  step_refused i k old new s t r e (inr (inl (p, inr (inl (long, is, same, f))))) = (ap holds f, same)
  step_refused i k old new s t r e (inr (inl (p, inr (inr (some, fits, x))))) =
      for_day (GoesOn (DaySees does i p)) i old new s t r
      (λ w m y.
      let z = day_not_seen i k p w y.0 m t r e y.2 in
      (z.0, y.1 ∙ ap Some z.1)) x
  step_refused i k old new s t r e (inr (inr (inl x))) =
      for_day (GoesOn (DayRaises does i)) i old new s t r (λ w m y. (day_not_raised i w m t r y.2.1, y.1 ∙ ap Some y.2.0)) x
  step_refused i k old new s t r e (inr (inr (inr (inl x)))) = for_day (Ends does i) i old new s t r (λ w m y. (day_not_named i w m t r y.1, y.0)) x
  step_refused i k old new s t r e (inr (inr (inr (inr x)))) =
      for_day (λ w m b n u. (b ≡ Ok BrokenOff) × (n ≡ None) × (u ≡ m)) i old new s t r
      (λ w m y.
      let f : Err r ≡ Ok BrokenOff = y.0 in
      absurd cc) x

  add_refused : (i k : ℕ) (path file : List ℕ) (old new : Option Work) (s t : S) (r : Refusal) → number_of r ≡ Some k → Adds does i path file old s (Err r) new t →
      (new ≡ old) × OnlyLists (holds s) (holds t) × ((r ≡ TooManyNames → ⊥) → holds t ≡ holds s)
  add_refused i k path file old new s t r e (inl (q, is, why, same, f)) = (same, only_same (ap holds f), λ full. ap holds f)
  add_refused i k path file old new s t r e (inr (short, is_path, inl (q, is, same, h))) = let f = no_day i old s t q h in (same, only_same f, λ full. f)
  add_refused i k path file old new s t r e (inr (short, is_path, inr (w, is, m, l, (v, f, h)))) =
      let before = (on does holds exact s m i true l).0 in
      let no = not_added i k path (pieces file) w v m t r e h in
      (f ∙ ap Some no.day ∙ sym is, only_then (only_same before) no.only, λ full. no.same full ∙ before)

pub kept : {S : Type 0} (does : Doing S) → Promised does
kept does holds exact =
    record {
      seen = seen does holds exact;
      added = added does holds exact;
      raised = raises does holds exact;
      named = names does holds exact;
      refused = step_refused does holds exact;
      add_refused = add_refused does holds exact;
    }
