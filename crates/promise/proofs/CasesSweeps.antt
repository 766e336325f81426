-- What the sweeper finds where there is only one piece.
-- Assumes nothing.
use Rattle.std.proofs.Common.{◌≡◌, inr, ℕ, ◌<◌, ◌≤◌, arith, Bool, true, not, ◌&&◌, nat_lt, List, [], ◌∷◌, ◌++◌, Some, None, IsSome, refl}
use Rattle.digest.specs.declared.value.Digest.{Digest}
use Rattle.digest.specs.Digests.{digest_of}
use Rattle.store.specs.Effects.{with_aside, with_own, with_place}
use Rattle.store.specs.State.{State, empty, is_in, most_machines, most_names, same_name}
use Rattle.store.proofs.Equality.{names_decide}
use Rattle.dayfile.specs.Stored.{HasFiles}
use Rattle.sweeper.specs.Pieces.{FoundHas, IsListed, IsThere, IsWhole}
use Rattle.sweeper.specs.Sweepers.{Sweeping, is_resting, puts}
use Rattle.sweeper.specs.System.{Decided, Looked}
use Rattle.promise.specs.Cases.{AreNames, Part, goes_aside, goes_away, goes_back, lines, one_piece}
use Rattle.promise.specs.System.{World}
use Rattle.promise.proofs.Names.{tests}
use Rattle.promise.proofs.CasesForms.{Days, forms, passes}
use Rattle.promise.proofs.CasesPlay.{Checks, Playable, both_finished, one_less}

ruleset keep = (arith, tests)

-- a name is itself
pub same : (n : Digest) → same_name n n ≡ true
same n = (names_decide n n).1 refl

module _ (p : List ℕ) where
  -- the piece's name
  abbrev pub x : Digest
  x = digest_of p

  -- the store and days have no other piece, and days are of their form
  pub record Only (s : State) : Type 0 where
    pub place : (n : Digest) → IsSome (s.place n) → n ≡ x
    pub aside : (n : Digest) → IsSome (s.aside n) → n ≡ x
    pub days : Days (λ n. n ≡ x) s.days

  -- Where the sweeper looks: the piece is in its place, and no day has it; or it is aside. Where it decides: a day has the piece, or none.
  pub record InPlace (s : State) : Type 0 where
    pub only : Only s
    pub listed : IsListed s x
    pub place : s.place x ≡ Some p
    pub unused : FoundHas s x → ⊥

  pub record Aside (s : State) : Type 0 where
    pub only : Only s
    pub no_place : s.place x ≡ None
    pub aside : s.aside x ≡ Some p

  pub record Used (s : State) : Type 0 where
    pub only : Only s
    pub own : s.own x ≡ true
    pub aside : s.aside x ≡ Some p
    pub used : FoundHas s x

  pub record Unused (s : State) : Type 0 where
    pub only : Only s
    pub own : s.own x ≡ true
    pub place : s.place x ≡ None
    pub aside : s.aside x ≡ Some p
    pub unused : FoundHas s x → ⊥

  -- a day has it
  pub day_has : {s : State} (i k : ℕ) → i < most_machines → 1 ≤ k → k ≤ s.highest i → HasFiles s (record { machine = i; number = k }) (one_piece p ∷ []) → FoundHas s x
  day_has i k l m h d = record { day = record { machine = i; number = k }; files = one_piece p ∷ []; found = record { machine = l; first = m; last = h }; is_there = d; has = rw (same x) }

  -- what a day has that can be found is it, and what is found is whole where that is there
  is_it : {s : State} → Only s → (n : Digest) → FoundHas s n → n ≡ x
  is_it {s} o = passes (λ n. n ≡ x) s o.days

  whole : {s : State} → Only s → (FoundHas s x → IsThere s x) → IsWhole s
  whole {s} o t = record { forms = forms (λ n. n ≡ x) s o.days; pieces = λ n f. let e = is_it o n f in rw e (t (rw e at f)) }

  module _ {s : State} where
    -- what the sweeper can find then
    look_one : InPlace s → Looked s (x ∷ [])
    look_one h = record { whole = whole h.only (λ f. absurd (h.unused f)); spares = λ n i. grind keep; all = λ n a b c. grind (keep, h.only.place n b) }

    pub look_none : Aside s → Looked s []
    look_none h = record { whole = whole h.only (λ f. inr (rw h.aside)); spares = λ n i. absurd cc; all = λ n a b c. grind (keep, h.only.place n b) }

    back_one : Used s → Decided s (x ∷ []) []
    back_one h = record { whole = whole h.only (λ f. inr (rw h.aside)); goes_back = λ n i. grind keep; goes_away = λ n i. absurd cc; all = λ n o a. grind (keep, h.only.aside n a) }

    away_one : Unused s → Decided s [] (x ∷ [])
    away_one h = record { whole = whole h.only (λ f. absurd (h.unused f)); goes_back = λ n i. absurd cc; goes_away = λ n i. grind keep; all = λ n o a. grind (keep, h.only.aside n a) }

    -- and that it finds nothing else
    looked_one : InPlace s → (left : List Digest) → Looked s left → AreNames left (p ∷ [])
    looked_one h left l n = let a = l.spares n in let b = l.all n in let c = h.only.place n in grind keep

    pub looked_none : Aside s → (left : List Digest) → Looked s left → AreNames left []
    looked_none h left l n = let a = l.spares n in let c = h.only.place n in grind keep

    only_back : Used s → (back away : List Digest) → Decided s back away → AreNames back (p ∷ []) × AreNames away []
    only_back h back away d = (λ n. back_is n, λ n. let no = none n in grind keep)
      where
        none : (n : Digest) → is_in n away ≡ true → ⊥
        none n i = let (o, a, f) = d.goes_away n i in let e = h.only.aside n a in f (rw e h.used) (rw (e, h.aside))

        back_is : (n : Digest) → is_in n back ≡ is_in n (x ∷ [])
        back_is n = let no = none x in let g = d.goes_back n in let all = d.all x h.own (rw h.aside) in let e = is_it h.only n in grind keep

    only_away : Unused s → (back away : List Digest) → Decided s back away → AreNames back [] × AreNames away (p ∷ [])
    only_away h back away d = (λ n. let no = none n in grind keep, λ n. away_is n)
      where
        none : (n : Digest) → is_in n back ≡ true → ⊥
        none n i = let (o, f, r) = d.goes_back n i in h.unused (rw (is_it h.only n f) at f)

        away_is : (n : Digest) → is_in n away ≡ is_in n (x ∷ [])
        away_is n = let no = none x in let g = d.goes_away n in let all = d.all x h.own (rw h.aside) in let e = h.only.aside n in grind keep

  -- the world after the piece was put aside, and what the sweeper does then
  abbrev pub put : World → Sweeping → World
  put w y = record { store = with_aside x (Some p) (with_place x None (with_own x w.store)); makes = w.makes; sweeper = y }

  module _ (w : World) where
    -- How parts begin that put it aside: they can be played, and show what they are to show, if the others do.
    pub aside_plays : (b : Bool) (others : List Part) → b ≡ true → InPlace w.store → is_resting w.sweeper ≡ true → (not (w.store.own x) && nat_lt w.store.names most_names) ≡ true → Playable true (lines others) (put w (puts [])) → Playable b (lines (goes_aside p ++ others)) w
    aside_plays b others e h r t c = (rw (e, r), x ∷ [], look_one h, rw (same x, t, h.place) c)

    pub aside_shows : (others : List Part) → InPlace w.store → ((left : List Digest) → Checks others (put w (one_less (puts left)))) → Checks (goes_aside p ++ others) w
    aside_shows others h c = λ left l. ((left, refl, looked_one h left l), rw h.place (rw (same x), (rw (same x), c left)))

    -- And so for those that decide, and put it back or throw it away.
    pub back_plays : (b : Bool) → (b && both_finished w.store w.sweeper) ≡ true → w.store.machines ≡ (empty (0 ∷ 1 ∷ [])).machines → Used w.store → Playable b (lines (goes_back p)) w
    back_plays b e m h = (e, m, x ∷ [], [], back_one h, rw (same x))

    pub back_shows : Used w.store → Checks (goes_back p) w
    back_shows h = λ m back away d. ((back, away, refl, only_back h back away d), rw h.aside (rw (same x), (λ n. let e = h.only.aside n in grind keep, (refl, tt))))

    pub away_plays : (b : Bool) → (b && both_finished w.store w.sweeper) ≡ true → w.store.machines ≡ (empty (0 ∷ 1 ∷ [])).machines → Unused w.store → Playable b (lines (goes_away p)) w
    away_plays b e m h = (e, m, [], x ∷ [], away_one h, rw (same x))

    pub away_shows : Unused w.store → Checks (goes_away p) w
    away_shows h = λ m back away d. ((back, away, refl, only_away h back away d), (h.place, (λ n. let e = h.only.aside n in grind keep, (refl, tt))))
