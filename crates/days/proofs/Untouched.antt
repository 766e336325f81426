-- No step but naming changes which days are there.
-- Assumes nothing.
use Rattle.std.proofs.Common.{◌≡◌, ◌⊎◌, ℕ, ◌≤◌, inl, inr, ap, sym, refl, ◌∙◌, arith, true, false, Bool, List, [], length, slice_index_or, nat_le, cond, Some, Ok, Err, Option, Result}
use Rattle.cutting.specs.Rule.{pieces}
use Rattle.cutting.specs.declared.refusal.Refusal.{Refusal}
use Rattle.cutting.specs.declared.refusal.Refusal.TheVariants.{NoMemory}
use Rattle.store.specs.Asking.{Doing, IsExact}
use Rattle.store.specs.Effects.{Does, with_listing}
use Rattle.store.specs.Loops.{Times, at}
use Rattle.store.specs.Requests.{Request, HasMachine, Read, Enlist, Write, Highest, Raise, NameDay, Answer, Refused}
use Rattle.store.specs.State.{State, most_names}
use Rattle.days.specs.Asking.{NotOnList}
use Rattle.days.specs.declared.done.Added.{Added as Count}
use Rattle.days.specs.declared.done.Done.{Done}
use Rattle.days.specs.declared.done.Done.TheVariants.{Begun, Found, Written, Added, Raised, Named, BrokenOff}
use Rattle.days.specs.Machines.{Work, new_day}
use Rattle.days.specs.Steps.{Adds, AddsCut, Begins, DayAdds, DayRaises, Ends, ForDay, GoesOn, ListsAbsent, ListsAll, Names, NotNamed, Raises, SeesAll, SeesFile, SeesPiece, SeesTo}
use Rattle.store.proofs.Exact.{refused}
use Rattle.days.proofs.Seen.{each_is_done, each_is_stopped, times_run}

-- requests, with their answers, that leave the days as they are
abbrev Leaves : Request → Answer → Type 0
Leaves (HasMachine i) a = Unit {0}
Leaves (Read spot n) a = Unit {0}
Leaves (Enlist l) a = Unit {0}
Leaves (Write n b) a = Unit {0}
Leaves (Highest i) a = Unit {0}
Leaves (Raise i n) a = Unit {0}
Leaves (NameDay d file) (Refused r) = Unit {0}
Leaves q other = ⊥

-- those that are not refused have the days of their effect
of_effect : (p : Answer × State) (w : Bool) (a : Answer) (s t : State) → p.1.days ≡ s.days → (p ≡ (a, t)) ⊎ ((w ≡ true) × (a ≡ Refused NoMemory) × (t ≡ s)) → t.days ≡ s.days
of_effect p w a s t h (inl e) = sym (ap (λ (x : Answer × State). x.1.days) e) ∙ h
of_effect p w a s t h (inr (is, e, same)) = ap (λ (z : State). z.days) same

enlists : (there full : Bool) (a b : Answer) (s t : State) → t.days ≡ s.days → (cond {A = Answer × State} there (a, s) (cond {A = Answer × State} full (b, s) (a, t))).1.days ≡ s.days
enlists true full a b s t h = refl
enlists false true a b s t h = refl
enlists false false a b s t h = h

untouched : (q : Request) (a : Answer) (s t : State) → Leaves q a → Does s q a t → t.days ≡ s.days
untouched (HasMachine i) a s t l h = of_effect _ _ a s t refl h
untouched (Read spot n) a s t l h = of_effect _ _ a s t refl h
untouched (Enlist k) a s t l h = of_effect _ _ a s t (enlists (s.listed k) (nat_le most_names s.names) _ _ s (with_listing k s) refl) h
untouched (Write n b) a s t l h = of_effect _ _ a s t refl h
untouched (Highest i) a s t l h = of_effect _ _ a s t refl h
untouched (Raise i n) a s t l h = of_effect _ _ a s t refl h
untouched (NameDay d file) (Refused r) s t l h = ap (λ (z : State). z.days) (refused s t (NameDay d file) r h)
untouched q a s t l h = absurd l

module _ {S : Type 0} (does : Doing S) (holds : S → State) (exact : IsExact holds does) where
  -- which days are there has not changed
  abbrev pub Same : S → S → Type 0
  Same s t = (holds t).days ≡ (holds s).days

  pub same : {s t : S} → t ≡ s → Same s t
  same e = ap (λ x. (holds x).days) e

  -- one, two or three requests
  one : {q : Request} {a : Answer} {s t : S} → (m : S) × does s q a m × (t ≡ m) → Leaves q a → Same s t
  one {q} {a} {s} {t} (m, d, e) l = same e ∙ untouched q a (holds s) (holds m) l (exact s m q a d)

  two : {q p : Request} {a b : Answer} {s t : S} → (m : S) × does s q a m × ((n : S) × does m p b n × (t ≡ n)) → Leaves q a → Leaves p b → Same s t
  two {q} {p} {a} {b} {s} (m, d, x) l k = one {q = p} {a = b} x k ∙ untouched q a (holds s) (holds m) l (exact s m q a d)

  three : {q p o : Request} {a b c : Answer} {s t : S} → (m : S) × does s q a m × ((n : S) × does m p b n × ((u : S) × does n o c u × (t ≡ u))) → Leaves q a → Leaves p b → Leaves o c → Same s t
  three {q} {p} {o} {a} {b} {c} {s} (m, d, x) l k j = two {q = p} {p = o} {a = b} {b = c} x k j ∙ untouched q a (holds s) (holds m) l (exact s m q a d)

  module _ (i : ℕ) where
    sees_to : (p : List ℕ) (s t : S) (a : Result Bool Refusal) → SeesTo does i p s a t → Same s t
    sees_to p s t (Ok false) x = one x tt
    sees_to p s t (Ok true) (b, other, x) = three x tt tt tt
    sees_to p s t (Err r) (inl x) = one x tt
    sees_to p s t (Err r) (inr (b, other, inl x)) = two x tt tt
    sees_to p s t (Err r) (inr (b, other, inr x)) = three x tt tt tt

    sees_all : (ps : List (List ℕ)) (s t : S) (u v : ℕ) (a : Result (Unit {0}) Refusal) → SeesAll does i ps s u a t v → Same s t
    sees_all ps s t u v a x = go a x
      where
        first : (k : ℕ) (m : S) (w : ℕ) → k ≤ length ps → Times (at [] (SeesPiece does i) ps) k s u m w → Same s m
        first k m w le h = times_run _ (λ j n. Same s n) (length ps) s u refl (λ j n o y z lt before g. sees_to (slice_index_or ps j []) n o (Ok g.0) g.1 ∙ before) k m w le h

        go : (a : Result (Unit {0}) Refusal) → SeesAll does i ps s u a t v → Same s t
        go (Ok tt) x = first (length ps) t v (omega arith) (each_is_done [] (SeesPiece does i) ps s t u v x)
        go (Err r) x =
            let (k, lt, m, w, times, last) = each_is_stopped [] (SeesPiece does i) ps s t u v r x in
            sees_to (slice_index_or ps k []) m t (Err r) last ∙ first k m w (omega arith) times

    lists_absent : (p : List ℕ) (s t : S) (u v : Unit {0}) (a : Result (Unit {0}) Refusal) → ListsAbsent does i p s u a t v → Same s t
    lists_absent p s t u v (Ok tt) (inl x) = one x tt
    lists_absent p s t u v (Ok tt) (inr (b, other, x)) = two x tt tt
    lists_absent p s t u v (Err r) (inl x) = one x tt
    lists_absent p s t u v (Err r) (inr (b, other, x)) = two x tt tt

    lists_all : (ps : List (List ℕ)) (s t : S) (a : Result (Unit {0}) Refusal) → ListsAll does i ps s tt a t tt → Same s t
    lists_all ps s t a x = go a x
      where
        first : (k : ℕ) (m : S) (w : Unit {0}) → k ≤ length ps → Times (at [] (ListsAbsent does i) ps) k s tt m w → Same s m
        first k m w le h = times_run _ (λ j n. Same s n) (length ps) s tt refl (λ j n o y z lt before g. lists_absent (slice_index_or ps j []) n o y z (Ok tt) g ∙ before) k m w le h

        go : (a : Result (Unit {0}) Refusal) → ListsAll does i ps s tt a t tt → Same s t
        go (Ok tt) x = first (length ps) t tt (omega arith) (each_is_done [] (ListsAbsent does i) ps s t tt tt x)
        go (Err r) x =
            let (k, lt, m, w, times, last) = each_is_stopped [] (ListsAbsent does i) ps s t tt tt r x in
            lists_absent (slice_index_or ps k []) m t w tt (Err r) last ∙ first k m w (omega arith) times

    sees_file : (ps : List (List ℕ)) (s t : S) (a : Result (Unit {0}) Refusal) (n : ℕ) → SeesFile does i ps s a t n → Same s t
    unfolding SeesFile
    sees_file ps s t (Ok tt) n (m, listed, all) = sees_all ps m t 0 n (Ok tt) all ∙ lists_all ps s m (Ok tt) listed
    sees_file ps s t (Err r) n (inl unlisted) = lists_all ps s t (Err r) unlisted
    sees_file ps s t (Err r) n (inr (m, listed, unseen)) = sees_all ps m t 0 n (Err r) unseen ∙ lists_all ps s m (Ok tt) listed

    day_adds : (path : List ℕ) (ps : List (List ℕ)) (w v : Work) (s t : S) (a : Result Count Refusal) → DayAdds does i path ps w s a v t → Same s t
    day_adds path ps w v s t (Ok a) (may, all, count, g) = sees_file ps s t (Ok tt) a.written all
    day_adds path ps w v s t (Err r) (g, inl (is, e)) = same e
    day_adds path ps w v s t (Err r) (g, inr (inl (is, e))) = same e
    day_adds path ps w v s t (Err r) (g, inr (inr (inl (n, has, are, is, e)))) = same e
    day_adds path ps w v s t (Err r) (g, inr (inr (inr (may, c, inl stopped)))) = sees_file ps s t (Err r) c stopped
    day_adds path ps w v s t (Err r) (g, inr (inr (inr (may, c, inr (all, is))))) = sees_file ps s t (Ok tt) c all

    adds_cut : (path file : List ℕ) (w v : Work) (s t : S) (a : Result Done Refusal) → AddsCut does i path file w s a v t → Same s t
    adds_cut path file w v s t (Ok (Added a)) x = day_adds path (pieces file) w v s t (Ok a) x
    adds_cut path file w v s t (Err r) x = day_adds path (pieces file) w v s t (Err r) x
    adds_cut path file w v s t (Ok Begun) x = absurd x
    adds_cut path file w v s t (Ok (Found k)) x = absurd x
    adds_cut path file w v s t (Ok (Written k)) x = absurd x
    adds_cut path file w v s t (Ok (Raised k)) x = absurd x
    adds_cut path file w v s t (Ok (Named k)) x = absurd x
    adds_cut path file w v s t (Ok BrokenOff) x = absurd x

    day_raises : (w v : Work) (s t : S) (a : Result Done Refusal) → DayRaises does i w s a v t → Same s t
    day_raises w v s t (Ok (Raised k)) (n, g, h, below, is, x) = two x tt tt
    day_raises w v s t (Err r) (g, inl (k, n, is, e)) = same e
    day_raises w v s t (Err r) (g, inr (n, inl x)) = one x tt
    day_raises w v s t (Err r) (g, inr (n, inr (inl (is, x)))) = one x tt
    day_raises w v s t (Err r) (g, inr (n, inr (inr (h, below, x)))) = two x tt tt
    day_raises w v s t (Ok Begun) x = absurd x
    day_raises w v s t (Ok (Found k)) x = absurd x
    day_raises w v s t (Ok (Written k)) x = absurd x
    day_raises w v s t (Ok (Added k)) x = absurd x
    day_raises w v s t (Ok (Named k)) x = absurd x
    day_raises w v s t (Ok BrokenOff) x = absurd x

    not_on : (s t : S) (r : Refusal) → NotOnList does i s r t → Same s t
    not_on s t r (inl (x, is)) = one x tt
    not_on s t r (inr x) = one x tt

    for_day : (step : Work → S → Result Done Refusal → Option Work → S → Type 0) (a : Result Done Refusal) (old new : Option Work) (s t : S) →
        ((w : Work) (m : S) → step w m a new t → Same m t) → ForDay does i step old s a new t → Same s t
    for_day step a old new s t f (inl (r, is, e, inl n)) = not_on s t r n
    for_day step a old new s t f (inl (r, is, e, inr (none, o, x))) = one x tt
    for_day step a old new s t f (inr (w, e, m, o, x)) = f w m x ∙ one o tt

    -- a day that is not begun
    pub begins : (old new : Option Work) (s t : S) (r : Refusal) → Begins does i old s (Err r) new t → Same s t
    begins old new s t r (e, inl n) = not_on s t r n
    begins old new s t r (e, inr (w, is, f, x)) = one x tt

    -- one that is: nothing is seen to for it yet
    pub begun : (old new : Option Work) (s t : S) (c : Done) → Begins does i old s (Ok c) new t → (new ≡ Some new_day) × Same s t
    begun old new s t Begun (none, is, x) = (is, one x tt)
    begun old new s t (Found k) x = absurd x
    begun old new s t (Written k) x = absurd x
    begun old new s t (Added k) x = absurd x
    begun old new s t (Raised k) x = absurd x
    begun old new s t (Named k) x = absurd x
    begun old new s t BrokenOff x = absurd x

    -- a file that is added or not
    pub adds : (path file : List ℕ) (old new : Option Work) (s t : S) (a : Result Done Refusal) → Adds does i path file old s a new t → Same s t
    adds path file old new s t a (inl (r, is, why, e, f)) = same f
    adds path file old new s t a (inr (short, is, x)) = for_day (GoesOn (AddsCut does i path file)) a old new s t (λ w m y. adds_cut path file w y.0 m t a y.2) x

    -- a number that is raised or not
    pub raises : (old new : Option Work) (s t : S) (a : Result Done Refusal) → Raises does i old s a new t → Same s t
    raises old new s t a x = for_day (GoesOn (DayRaises does i)) a old new s t (λ w m y. day_raises w y.0 m t a y.2) x

    -- a day that is not named
    not_named : (w : Work) (s t : S) (r : Refusal) → NotNamed does i w s r t → Same s t
    not_named w s t r (inl (n, is, e)) = same e
    not_named w s t r (inr (k, n, inl (is, e))) = same e
    not_named w s t r (inr (k, n, inr x)) = one x tt

    pub names : (old new : Option Work) (s t : S) (r : Refusal) → Names does i old s (Err r) new t → Same s t
    names old new s t r x = for_day (Ends does i) (Err r) old new s t (λ w m y. not_named w m t r y.1) x
