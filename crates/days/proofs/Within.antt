-- Each step of a machine over an exact store is some steps of the system, or none.
-- Assumes nothing.
use Rattle.std.proofs.Common.{◌≡◌, ℕ, suc, ◌+◌, ◌*◌, ◌≤◌, inl, inr, ap, sym, subst, refl, ◌∙◌, arith, true, Bool, false, List, [], ◌∷◌, length, map, take, take_all, slice_index_or, Some, None, Ok, Err, Option, Result}
use Rattle.cutting.specs.Rule.{pieces}
use Rattle.cutting.specs.declared.refusal.Refusal.{Refusal}
use Rattle.digest.specs.declared.value.Digest.{Digest}
use Rattle.digest.specs.Digests.{digest_of}
use Rattle.dayfile.specs.Form.{day_file}
use Rattle.store.specs.declared.day.DayName.{DayName}
use Rattle.store.specs.declared.piece.Spot.TheVariants.{Place}
use Rattle.store.specs.Asking.{Doing, IsExact}
use Rattle.store.specs.Effects.{with_day, with_highest, with_place}
use Rattle.store.specs.Loops.{Times, at}
use Rattle.store.specs.Requests.{Highest, Raise}
use Rattle.store.specs.State.{State, last_number, most_in_piece}
use Rattle.days.specs.declared.done.Added.{Added as Count}
use Rattle.days.specs.declared.done.Done.TheVariants.{Begun, Found, Written, Added, Raised, Named, BrokenOff}
use Rattle.days.specs.declared.done.Done.{Done as StepDone}
use Rattle.days.specs.Machines.{Work, new_day, with_number, with_piece}
use Rattle.days.specs.Within.{AreSteps}
use Rattle.days.specs.Steps.{Adds, AddsCut, Begins, Breaks, DayAdds, DayRaises, DaySees, Ends, ForDay, GoesOn, ListsAbsent, ListsAll, NoDay, Sees, SeesFile, SeesPiece, SeesTo, entry, name, place_path}
use Rattle.days.specs.System.{Makes, Within, World, adds, begins, breaks, finds, forgets, lists, names, raises, still, world, writes}
use Rattle.store.proofs.Exact.{Enlisted, highest, named, raised, read}
use Rattle.days.proofs.Cuts.{Fit, fit, fit_one}
use Rattle.days.proofs.Listed.{AllReady, Ready, all_listed, lists_after, listing, looked_for, not_looked_for, not_seen_to, ready_seen, writes_only}
use Rattle.days.proofs.Moves.{after, at_last, at_most, moves, not_on, on, put_here, stays, unmoved}
use Rattle.days.proofs.Seen.{each_is_done, each_is_stopped, names_more, seen_to, times_run}

module _ {S : Type 0} (does : Doing S) (holds : S → State) (exact : IsExact holds does) where
  -- refused since there is no day for the step
  no_day : {n : ℕ} (w : World) (i : ℕ) (s t : S) (r : Refusal) (new : Option Work) → w.store ≡ holds s → new ≡ w.makes i → NoDay does i (w.makes i) s r t → Within n w (world (holds t) i new w)
  no_day w i s t r new h f (inl n) = stays w i (holds t) new (not_on does holds exact s t i r n ∙ sym h) f
  no_day w i s t r new h f (inr n) = stays w i (holds t) new ((on does holds exact s t i true n.2).0 ∙ sym h) f

  -- a step for a day that the machine makes
  for_day : {n : ℕ} (step : Work → S → Result StepDone Refusal → Option Work → S → Type 0) (w : World) (i : ℕ) (s t : S) (a : Result StepDone Refusal) (new : Option Work) → w.store ≡ holds s →
      ((d : Work) (m : S) → w.makes i ≡ Some d → w.store.machines i ≡ true → w.store ≡ holds m → step d m a new t → Within n w (world (holds t) i new w)) →
      ForDay does i step (w.makes i) s a new t → Within n w (world (holds t) i new w)
  for_day step w i s t a new h go (inl (r, e, f, n)) = no_day w i s t r new h f n
  for_day step w i s t a new h go (inr (d, e, m, k, x)) =
      let o = on does holds exact s m i true k in
      go d m e (ap (λ (z : State). z.machines i) h ∙ o.1) (h ∙ sym o.0) x

  begins_run : (w : World) (i : ℕ) (s t : S) (a : Result StepDone Refusal) (new : Option Work) → w.store ≡ holds s → Begins does i (w.makes i) s a new t → Within 1 w (world (holds t) i new w)
  begins_run w i s t (Ok Begun) new h (e, f, k) =
      let o = on does holds exact s t i true k in
      moves w w i w.store (holds t) (Some new_day) new still (begins w i (ap (λ (z : State). z.machines i) h ∙ o.1) e) (h ∙ sym o.0) (sym f)
  begins_run w i s t (Err r) new h (f, inl n) = stays w i (holds t) new (not_on does holds exact s t i r n ∙ sym h) f
  begins_run w i s t (Err r) new h (f, inr (d, e, g, k)) = stays w i (holds t) new ((on does holds exact s t i true k).0 ∙ sym h) f
  begins_run w i s t (Ok (Found k)) new h x = absurd x
  begins_run w i s t (Ok (Written k)) new h x = absurd x
  begins_run w i s t (Ok (Raised k)) new h x = absurd x
  begins_run w i s t (Ok (Named k)) new h x = absurd x
  begins_run w i s t (Ok BrokenOff) new h x = absurd x
  begins_run w i s t (Ok (Added k)) new h x = absurd x

  breaks_run : (w : World) (i : ℕ) (s t : S) (a : Result StepDone Refusal) (new : Option Work) → w.store ≡ holds s → Breaks does i (w.makes i) s a new t → Within 1 w (world (holds t) i new w)
  breaks_run w i s t a new h x =
      for_day (λ d m b n u. (b ≡ Ok BrokenOff) × (n ≡ None) × (u ≡ m)) w i s t a new h
      (λ d m e o k y. moves w w i w.store (holds t) None new still (breaks w i) (k ∙ ap holds (sym y.2)) (sym y.1)) x

  -- a day that is under way, in the words of the system
  makes : (w : World) (i : ℕ) (d : Work) → w.makes i ≡ Some d → w.store.machines i ≡ true → d.number ≡ None → Makes w i d
  makes w i d e o n = record { on_list = o; makes = e; no_number = n }

  day_raises : (w : World) (i : ℕ) (s t : S) (a : Result StepDone Refusal) (new : Option Work) (d : Work) → w.makes i ≡ Some d → w.store.machines i ≡ true → w.store ≡ holds s → GoesOn (DayRaises does i) d s a new t → Within 1 w (world (holds t) i new w)
  day_raises w i s t (Ok (Raised k)) new d e o h (v, f, (n, g, x, below, is, (m, asked, (m', set, last)))) =
      let told = highest _ _ i x (exact s m _ _ asked) in
      let high : w.store.highest i ≡ x = ap (λ (z : State). z.highest i) h ∙ told.1 in
      let stored = raised _ _ i k (exact m m' _ _ set) in
      moves w w i _ (holds t) _ new still (raises w i d (makes w i d e o n) (rw high below))
      (ap (λ y. with_highest i (y + 1) w.store) high ∙ (rw is at (ap (with_highest i k) (h ∙ sym told.0) ∙ stored ∙ ap holds (sym last))))
      (ap (λ y. Some (with_number (y + 1) d)) high ∙ ap (λ y. Some (with_number y d)) (sym is) ∙ ap Some (sym g) ∙ sym f)
  day_raises w i s t (Err r) new d e o h (v, f, (g, inl (k, n, is, same))) = stays w i (holds t) new (ap holds same ∙ sym h) (f ∙ ap Some g ∙ sym e)
  day_raises w i s t (Err r) new d e o h (v, f, (g, inr (n, inl x))) = stays w i (holds t) new (unmoved does holds exact s t (Highest i) r x ∙ sym h) (f ∙ ap Some g ∙ sym e)
  day_raises w i s t (Err r) new d e o h (v, f, (g, inr (n, inr (inl (is, (m, asked, last)))))) =
      stays w i (holds t) new (ap holds last ∙ (highest _ _ i last_number (exact s m _ _ asked)).0 ∙ sym h) (f ∙ ap Some g ∙ sym e)
  day_raises w i s t (Err r) new d e o h (v, f, (g, inr (n, inr (inr (x, below, (m, asked, k)))))) =
      stays w i (holds t) new (unmoved does holds exact m t (Raise i (x + 1)) r k ∙ (highest _ _ i x (exact s m _ _ asked)).0 ∙ sym h) (f ∙ ap Some g ∙ sym e)
  day_raises w i s t (Ok Begun) new d e o h x = absurd x.2
  day_raises w i s t (Ok (Found k)) new d e o h x = absurd x.2
  day_raises w i s t (Ok (Written k)) new d e o h x = absurd x.2
  day_raises w i s t (Ok (Named k)) new d e o h x = absurd x.2
  day_raises w i s t (Ok BrokenOff) new d e o h x = absurd x.2
  day_raises w i s t (Ok (Added k)) new d e o h x = absurd x.2

  ends : (w : World) (i : ℕ) (s t : S) (a : Result StepDone Refusal) (new : Option Work) (d : Work) → w.makes i ≡ Some d → w.store.machines i ≡ true → w.store ≡ holds s → Ends does i d s a new t → Within 1 w (world (holds t) i new w)
  ends w i s t (Ok (Named k)) new d e o h (f, (n, (m, asked, last))) =
      let day : DayName = record { machine = i; number = k } in
      let file = day_file day d.files in
      let is = named _ _ day file (exact s m _ _ asked) in
      moves w w i _ (holds t) None new still (names w i d k o e n (ap (λ (z : State). z.days day) h ∙ is.0)) (ap (with_day day (Some file)) h ∙ is.1 ∙ ap holds (sym last)) (sym f)
  ends w i s t (Err r) new d e o h (f, inl (n, is, same)) = stays w i (holds t) new (ap holds same ∙ sym h) (f ∙ sym e)
  ends w i s t (Err r) new d e o h (f, inr (k, n, inl (is, same))) = stays w i (holds t) new (ap holds same ∙ sym h) (f ∙ sym e)
  ends w i s t (Err r) new d e o h (f, inr (k, n, inr x)) = stays w i (holds t) new (unmoved does holds exact s t (name i k d) r x ∙ sym h) (f ∙ sym e)
  ends w i s t (Ok Begun) new d e o h x = absurd x
  ends w i s t (Ok (Found k)) new d e o h x = absurd x
  ends w i s t (Ok (Written k)) new d e o h x = absurd x
  ends w i s t (Ok (Raised k)) new d e o h x = absurd x
  ends w i s t (Ok BrokenOff) new d e o h x = absurd x
  ends w i s t (Ok (Added k)) new d e o h x = absurd x

  -- a name is listed for a machine, or was
  lists_run : (w : World) (i : ℕ) (d : Work) (p : List ℕ) (t : State) → Makes w i d → Enlisted w.store (listing i p) t → Within 1 w (world t i (Some d) w)
  lists_run w i d p t m (inl (l, same)) = stays w i t (Some d) (sym same) (sym m.makes)
  lists_run w i d p t m (inr (l, few, is)) = moves w w i _ t (Some d) (Some d) still (lists w i d (digest_of p) m l few) is refl

  -- so where it is looked for in its place before
  looks_run : (w : World) (i : ℕ) (d : Work) (p : List ℕ) (s t : S) (u v : Unit {0}) → Makes w i d → w.store ≡ holds s → ListsAbsent does i p s u (Ok tt) t v → Within 1 w (world (holds t) i (Some d) w)
  looks_run w i d p s t u v k h (inl (m, asked, last)) = stays w i (holds t) (Some d) (ap holds last ∙ (read _ _ Place (digest_of p) (Some p) (exact s m _ _ asked)).0 ∙ sym h) (sym k.makes)
  looks_run w i d p s t u v k h (inr (b, other, (m, asked, (m', listed, last)))) =
      lists_run w i d p (holds t) k (subst (λ (z : State × State). Enlisted z.0 (listing i p) z.1) (λ j. (sym h j, ap holds (sym last) j)) (lists_after does holds exact i p b s m m' asked listed))

  -- the names of the first k pieces are listed
  lists_all_run : (w : World) (i : ℕ) (d : Work) (ps : List (List ℕ)) (k : ℕ) (s t : S) (u v : Unit {0}) → Makes w i d → w.store ≡ holds s → k ≤ length ps → Times (at [] (ListsAbsent does i) ps) k s u t v → Within k w (world (holds t) i (Some d) w) × ((holds t).machines i ≡ true)
  lists_all_run w i d ps k s t u v makes h le times =
      times_run _ (λ j m. Within j w (world (holds m) i (Some d) w) × ((holds m).machines i ≡ true)) (length ps) s u
      (stays w i (holds s) (Some d) (sym h) (sym makes.makes), ap (λ (z : State). z.machines i) (sym h) ∙ makes.on_list)
      (λ j m t x y lt before g.
      let p = slice_index_or ps j [] in
      let u = world (holds m) i (Some d) w in
      let run = looks_run u i d p m t x y (record { on_list = before.1; makes = put_here i (Some d) w.makes; no_number = makes.no_number }) refl g in
      (at_most (omega arith) (at_last w w i (holds m) (holds t) (Some d) (Some d) (after before.0 run)), ap (λ f. f i) (looked_for does holds exact i p m t x y g).only.machines ∙ before.1))
      k t v le times

  -- a piece that is there or listed is seen to
  piece_run : (p : List ℕ) (w : World) (i : ℕ) (s t : S) (b : Bool) (d : Work) → length p ≤ most_in_piece → Makes w i d → w.store ≡ holds s → Ready i (holds s) p → SeesTo does i p s (Ok b) t → Within 1 w (world (holds t) i (Some (with_piece (digest_of p) d)) w)
  piece_run p w i s t false d fits k h ready (m, asked, last) =
      let is = read _ _ Place (digest_of p) (Some p) (exact s m _ _ asked) in
      moves w w i w.store (holds t) _ _ still (finds w i d p k fits (ap (λ (z : State). z.place (digest_of p)) h ∙ is.1)) (h ∙ sym is.0 ∙ ap holds (sym last)) refl
  piece_run p w i s t true d fits k h ready x =
      let is = writes_only does holds exact i p s t ready x in
      moves w w i _ (holds t) _ _ still (writes w i d p k fits (ap (λ (z : State). z.listed (listing i p)) h ∙ is.0)) (ap (with_place (digest_of p) (Some p)) h ∙ is.1) refl

  -- what was seen to counts no more: the day is as it was
  forgets_run : {n : ℕ} (w : World) (i : ℕ) (d d' v : Work) (t : State) → d.seen ≡ [] → v ≡ d → d'.number ≡ None → t.machines i ≡ true → (d'.files ≡ d.files) × (d'.number ≡ d.number) → Within n w (world t i (Some d') w) → Within (suc n) w (world t i (Some v) w)
  forgets_run w i d d' v t none g n o same r =
      let u = world t i (Some d') w in
      at_last w w i t t (Some d') (Some v)
      (moves w u i _ t _ (Some v) r (forgets u i d' (record { on_list = o; makes = put_here i (Some d') w.makes; no_number = n })) refl
      (ap Some ((λ j. record { files = same.0 j; seen = sym none j; number = same.1 j }) ∙ sym g)))

  -- the names of all pieces of a file are listed, and its first k pieces are seen to, for a day for whose next file nothing was
  record Reached (w : World) (i : ℕ) (d : Work) (ps : List (List ℕ)) (k : ℕ) (t : S) : Type 0 where
    run : Within (length ps + k) w (world (holds t) i (Some (record d { seen = map digest_of (take k ps) })) w)
    on_list : (holds t).machines i ≡ true
    ready : AllReady i ps (length ps) (holds t)

  reached : (w : World) (i : ℕ) (d : Work) (ps : List (List ℕ)) (k : ℕ) (s m t : S) (u v : ℕ) → Fit ps → Makes w i d → d.seen ≡ [] → w.store ≡ holds s → ListsAll does i ps s tt (Ok tt) m tt → k ≤ length ps → Times (at [] (SeesPiece does i) ps) k m u t v → Reached w i d ps k t
  reached w i d ps k s m t u v fits makes none h listed le times =
      let first = each_is_done [] (ListsAbsent does i) ps s m tt tt listed in
      let lists = lists_all_run w i d ps (length ps) s m tt tt makes h (omega arith) first in
      times_run _ (Reached w i d ps) (length ps) m u
      (record {
        run = at_most (omega arith) (subst (λ (ns : List Digest). Within (length ps) w (world (holds m) i (Some (record d { seen = ns })) w)) none lists.0);
        on_list = lists.1;
        ready = (all_listed does holds exact i ps (length ps) s m tt tt (omega arith) first).ready;
      })
      (λ j m t x y lt before g.
      let p = slice_index_or ps j [] in
      let d' : Work = record d { seen = map digest_of (take j ps) } in
      let v = world (holds m) i (Some d') w in
      let run : Within 1 v (world (holds t) i (Some (with_piece (digest_of p) d')) v) =
      piece_run p v i m t g.0 d' (fits j lt) (record { on_list = before.on_list; makes = put_here i (Some d') w.makes; no_number = makes.no_number }) refl (before.ready j lt) g.1 in
      record {
        run = subst (λ (ns : List Digest). Within (length ps + suc j) w (world (holds t) i (Some (record d { seen = ns })) w)) (sym (names_more ps j lt))
            (at_most (omega arith) (at_last w w i (holds m) (holds t) (Some d') _ (after before.run run)));
        on_list = ap (λ f. f i) (seen_to does holds exact i p m t g.0 g.1).machines ∙ before.on_list;
        ready = λ q l. ready_seen does holds exact i (slice_index_or ps q []) p m t g.0 g.1 (before.ready q l);
      })
      k t v le times

  -- a file is added, or it is not
  day_adds : (path : List ℕ) (ps : List (List ℕ)) (w : World) (i : ℕ) (s t : S) (a : Result Count Refusal) (d v : Work) → Fit ps → w.makes i ≡ Some d → w.store.machines i ≡ true → w.store ≡ holds s → DayAdds does i path ps d s a v t → Within (2 * length ps + 1) w (world (holds t) i (Some v) w)
  unfolding SeesFile
  day_adds path ps w i s t (Ok a) d v fits e o h ((are, n, none), (m, listed, all), count, g) =
      let k = length ps in
      let x = reached w i d ps k s m t 0 a.written fits (makes w i d e o n) none h listed (omega arith) (each_is_done [] (SeesPiece does i) ps m t 0 a.written all) in
      let d' : Work = record d { seen = map digest_of (take k ps) } in
      let u = world (holds t) i (Some d') w in
      at_most (omega arith) (at_last w w i (holds t) (holds t) (Some d') (Some v)
      (moves w u i _ (holds t) _ (Some v) x.run (adds u i d' (entry path ps) (record { on_list = x.on_list; makes = put_here i (Some d') w.makes; no_number = n }) (sym (ap (map digest_of) (take_all k ps (omega arith)))) are) refl (ap Some (sym g))))
  day_adds path ps w i s t (Err r) d v fits e o h (g, inl (is, same)) = stays w i (holds t) (Some v) (ap holds same ∙ sym h) (ap Some g ∙ sym e)
  day_adds path ps w i s t (Err r) d v fits e o h (g, inr (inl (is, same))) = stays w i (holds t) (Some v) (ap holds same ∙ sym h) (ap Some g ∙ sym e)
  day_adds path ps w i s t (Err r) d v fits e o h (g, inr (inr (inl (k, has, are, is, same)))) = stays w i (holds t) (Some v) (ap holds same ∙ sym h) (ap Some g ∙ sym e)
  day_adds path ps w i s t (Err r) d v fits e o h (g, inr (inr (inr ((are, n, none), c, inl (inl unlisted))))) =
      let (k, lt, m, y, times, last) = each_is_stopped [] (ListsAbsent does i) ps s t tt tt r unlisted in
      let x = lists_all_run w i d ps k s m tt y (makes w i d e o n) h (omega arith) times in
      let same = (not_looked_for does holds exact i (slice_index_or ps k []) m t y tt r last).0 in
      at_most (omega arith) (subst (λ (z : State × Work). Within k w (world z.0 i (Some z.1) w)) (λ j. (sym same j, sym g j)) x.0)
  day_adds path ps w i s t (Err r) d v fits e o h (g, inr (inr (inr ((are, n, none), c, inl (inr (m, listed, unseen)))))) =
      let (k, lt, q, y, times, last) = each_is_stopped [] (SeesPiece does i) ps m t 0 c r unseen in
      let x = reached w i d ps k s m q 0 y fits (makes w i d e o n) none h listed (omega arith) times in
      let same = (not_seen_to does holds exact i (slice_index_or ps k []) q t r (x.ready k lt) last).0 in
      at_most (omega arith) (subst (λ (z : State). Within (suc (length ps + k)) w (world z i (Some v) w)) (sym same) (forgets_run w i d _ v (holds q) none g n x.on_list (refl, refl) x.run))
  day_adds path ps w i s t (Err r) d v fits e o h (g, inr (inr (inr ((are, n, none), c, inr ((m, listed, all), is))))) =
      let x = reached w i d ps (length ps) s m t 0 c fits (makes w i d e o n) none h listed (omega arith) (each_is_done [] (SeesPiece does i) ps m t 0 c all) in
      at_most (omega arith) (forgets_run w i d _ v (holds t) none g n x.on_list (refl, refl) x.run)

  -- see to a piece, as a file of its own
  day_sees : (p : List ℕ) (w : World) (i : ℕ) (s t : S) (a : Result StepDone Refusal) (new : Option Work) (d : Work) → length p ≤ most_in_piece → w.makes i ≡ Some d → w.store.machines i ≡ true → w.store ≡ holds s → GoesOn (DaySees does i p) d s a new t → Within 3 w (world (holds t) i new w)
  day_sees p w i s t a new d fits e o h (v, f, x) = rw f (run a x)
    where
      adds_one : (c : Result Count Refusal) → DayAdds does i (place_path (length d.files + 1)) (p ∷ []) d s c v t → Within 3 w (world (holds t) i (Some v) w)
      adds_one c y = day_adds _ (p ∷ []) w i s t c d v (fit_one p fits) e o h y

      run : (a : Result StepDone Refusal) → DaySees does i p d s a v t → Within 3 w (world (holds t) i (Some v) w)
      run (Ok (Found k)) (is, c, count, y) = adds_one (Ok c) y
      run (Ok (Written k)) (is, c, count, y) = adds_one (Ok c) y
      run (Err r) y = adds_one (Err r) y
      run (Ok Begun) y = absurd y
      run (Ok (Added k)) y = absurd y
      run (Ok (Raised k)) y = absurd y
      run (Ok (Named k)) y = absurd y
      run (Ok BrokenOff) y = absurd y

  sees_run : (p : List ℕ) (w : World) (i : ℕ) (s t : S) (a : Result StepDone Refusal) (new : Option Work) → w.store ≡ holds s → Sees does i p (w.makes i) s a new t → Within 3 w (world (holds t) i new w)
  sees_run p w i s t a new h (inl (none, is, f, same)) = stays w i (holds t) new (ap holds same ∙ sym h) f
  sees_run p w i s t a new h (inr (inl (long, is, f, same))) = stays w i (holds t) new (ap holds same ∙ sym h) f
  sees_run p w i s t a new h (inr (inr (some, fits, x))) = for_day (GoesOn (DaySees does i p)) w i s t a new h (λ d m e o k y. day_sees p w i m t a new d fits e o k y) x

  -- add a file
  day_adds_cut : (path file : List ℕ) (w : World) (i : ℕ) (s t : S) (a : Result StepDone Refusal) (new : Option Work) (d : Work) → w.makes i ≡ Some d → w.store.machines i ≡ true → w.store ≡ holds s → GoesOn (AddsCut does i path file) d s a new t → Within (2 * length (pieces file) + 1) w (world (holds t) i new w)
  day_adds_cut path file w i s t a new d e o h (v, f, x) = rw f (run a x)
    where
      run : (a : Result StepDone Refusal) → AddsCut does i path file d s a v t → Within (2 * length (pieces file) + 1) w (world (holds t) i (Some v) w)
      run (Ok (Added c)) y = day_adds path (pieces file) w i s t (Ok c) d v (fit file) e o h y
      run (Err r) y = day_adds path (pieces file) w i s t (Err r) d v (fit file) e o h y
      run (Ok Begun) y = absurd y
      run (Ok (Found k)) y = absurd y
      run (Ok (Written k)) y = absurd y
      run (Ok (Raised k)) y = absurd y
      run (Ok (Named k)) y = absurd y
      run (Ok BrokenOff) y = absurd y

  adds_run : (path file : List ℕ) (w : World) (i : ℕ) (s t : S) (a : Result StepDone Refusal) (new : Option Work) → w.store ≡ holds s → Adds does i path file (w.makes i) s a new t → Within (2 * length (pieces file) + 1) w (world (holds t) i new w)
  adds_run path file w i s t a new h (inl (r, is, why, f, same)) = stays w i (holds t) new (ap holds same ∙ sym h) f
  adds_run path file w i s t a new h (inr (short, is, x)) = for_day (GoesOn (AddsCut does i path file)) w i s t a new h (λ d m e o k y. day_adds_cut path file w i m t a new d e o k y) x

pub are_steps : {S : Type 0} (does : Doing S) → AreSteps does
are_steps does =
    record {
      begins = λ holds exact. begins_run does holds exact;
      sees = λ p holds exact. sees_run does holds exact p;
      adds = λ path file holds exact. adds_run does holds exact path file;
      raises = λ holds exact w i s t a new h x. for_day does holds exact (GoesOn (DayRaises does i)) w i s t a new h (λ d m e o k y. day_raises does holds exact w i m t a new d e o k y) x;
      names = λ holds exact w i s t a new h x. for_day does holds exact (Ends does i) w i s t a new h (λ d m e o k y. ends does holds exact w i m t a new d e o k y) x;
      breaks = λ holds exact. breaks_run does holds exact;
    }
