-- All names that are listed are finitely many, so that what a look or a decision asks for can be found.
-- Assumes nothing.
use Rattle.std.proofs.Common.{◌≡◌, ◌⊎◌, inr, ℕ, zero, suc, ◌+◌, ◌<◌, ◌≤◌, arith, Bool, true, false, not, ◌&&◌, ◌||◌, List, [], ◌∷◌, length, Some, None, Option, is_some, IsSome, Decides, filter, refl, sym, ap}
use Rattle.std.proofs.lemmas.Bool.Decides.{Decides-below_or}
use Rattle.std.proofs.lemmas.Map.Views.{any-filter_same}
use Rattle.digest.specs.declared.value.Digest.{Digest}
use Rattle.store.specs.declared.day.DayName.{DayName}
use Rattle.store.specs.State.{State, is_in, most_machines, same_name}
use Rattle.store.proofs.Equality.{names_decide}
use Rattle.dayfile.specs.Entries.{names_of}
use Rattle.days.specs.System as machines
use Rattle.sweeper.specs.Pieces.{FoundHas, IsListed, IsRight, IsWhole}
use Rattle.sweeper.specs.System as sweeping
use Rattle.sweeper.specs.System.{Decided, Looked}
use Rattle.promise.specs.Runs.{Reached, Run, onward, still}
use Rattle.promise.specs.System.{Step, World, by_machine, by_sweeper, parts}
use Rattle.promise.proofs.Bounds.{Bounds}
use Rattle.promise.proofs.Forms.{Has, IsForm, found_has, file_has, from_form, has_in, is_has}
use Rattle.promise.proofs.Names.{tests}

-- a list of all names that are listed, no longer than all lists together
pub record Finite (s : State) : Type 0 where
  pub all : List Digest
  pub few : length all ≤ s.names
  pub has : (n : Digest) → IsListed s n → is_in n all ≡ true

ruleset keep = (arith, tests)

-- where no name is added
same : {s t : State} → Finite s → t.names ≡ s.names → ((n : Digest) → IsListed t n → IsListed s n) → Finite t
same f e g = record { all = f.all; few = rw e f.few; has = λ n l. f.has n (g n l) }

-- where one is
more : {s t : State} (n : Digest) → Finite s → t.names ≡ s.names + 1 → ((q : Digest) → IsListed t q → (q ≡ n) ⊎ IsListed s q) → Finite t
more n f e g = record { all = n ∷ f.all; few = omega (arith, e, f.few); has = λ q l. let h = g q l in let k = f.has q in grind keep }

-- each step keeps such a list, and so does a run
by_machines : {v w : machines.World} → machines.Step v w → Finite v.store → Finite w.store
by_machines (machines.lists w i d n m o l) f = more n f refl (λ q h. grind keep)
by_machines other f = same f refl (λ n h. h)

by_sweepers : {v w : sweeping.World} → sweeping.Step v w → Finite v.store → Finite w.store
by_sweepers (sweeping.lists w n left e o l) f = more n f refl (λ q h. grind keep)
by_sweepers (sweeping.puts_aside w n left e o) f = same f (grind keep) (λ q h. grind keep)
by_sweepers (sweeping.puts_back w n back away e) f = same f (grind keep) (λ q h. grind keep)
by_sweepers other f = same f refl (λ n h. h)

finite_step : {v w : World} → Step v w → Finite v.store → Finite w.store
finite_step (by_machine x k) f = by_machines k f
finite_step (by_sweeper m k) f = by_sweepers k f
finite_step (parts w i o) f = same f refl (λ n h. h)

finite_run : {v w : World} → Run v w → Finite v.store → Finite w.store
finite_run still f = f
finite_run (onward r k) f = finite_step k (finite_run r f)

-- so there is one always
pub finite : (ms : List ℕ) {w : World} → Reached ms w → Finite w.store
finite ms r = finite_run r (record { all = []; few = omega arith; has = λ n l. grind keep })

-- whether one of the numbers below n passes
below : (ℕ → Bool) → ℕ → Bool
below p zero = false
below p (suc n) = p n || below p n

-- it tells whether there is one
below_decides : (p : ℕ → Bool) (P : ℕ → Type 0) → ((k : ℕ) → Decides (p k) (P k)) → (n : ℕ) → Decides (below p n) ((k : ℕ) × (k < n) × P k)
unfolding below
below_decides p P each n = Decides-below_or p P (below p) each refl (λ k. refl) n

-- what may lie under the name of a day is the file of a day of that name; and it is so of all days
abbrev pub AreForms : DayName → Option (List ℕ) → Type 0
AreForms d o = (b : List ℕ) → o ≡ Some b → IsForm d b

abbrev pub HaveForm : State → Type 0
HaveForm s = (d : DayName) → AreForms d (s.days d)

-- whether a day that may be there has a piece
has_piece : (d : DayName) (o : Option (List ℕ)) → AreForms d o → Digest → Bool
has_piece d None f n = false
has_piece d (Some b) f n = is_in n (names_of (from_form d b (f b refl)).0)

-- it tells whether it does
has_decides : (d : DayName) (o : Option (List ℕ)) (f : AreForms d o) (n : Digest) → Decides (has_piece d o f n) ((b : List ℕ) × (o ≡ Some b) × Has d b n)
unfolding has_piece
has_decides d None f n = (λ e. absurd cc, λ h. absurd cc)
has_decides d (Some b) f n = (λ e. (b, refl, is_has d b (from_form d b (f b refl)).0 n (from_form d b (f b refl)).1 e), λ (c, e, h). let g : b ≡ c = cc in has_in d _ n (from_form d b (f b refl)).1 (rw (sym g) at h))

-- whether a day that can be found has it
pub found : (s : State) → HaveForm s → Digest → Bool
found s f n = below (λ i. below (λ k. has_piece (record { machine = i; number = k }) (s.days (record { machine = i; number = k })) (f (record { machine = i; number = k })) n) (s.highest i + 1)) most_machines

-- one of the days that can be found by their numbers has it
abbrev There : State → Digest → Type 0
There s n = (i : ℕ) × (i < most_machines) × ((k : ℕ) × (k < s.highest i + 1) × ((b : List ℕ) × (s.days (record { machine = i; number = k }) ≡ Some b) × Has (record { machine = i; number = k }) b n))

-- the search tells it
there_decides : (s : State) (f : HaveForm s) (n : Digest) → Decides (found s f n) (There s n)
unfolding found
there_decides s f n = below_decides _ _ (λ i. below_decides _ _ (λ k. has_decides (record { machine = i; number = k }) (s.days (record { machine = i; number = k })) (f (record { machine = i; number = k })) n) (s.highest i + 1)) most_machines

module _ {w : World} (b : Bounds w) where
  -- it tells whether a day that can be found has it
  pub found_decides : (n : Digest) → Decides (found w.store b.forms n) (FoundHas w.store n)
  found_decides n = (λ e. to ((there_decides w.store b.forms n).0 e), λ h. (there_decides w.store b.forms n).1 (h.day.machine, h.found.machine, (h.day.number, omega (arith, h.found.last), (_, h.is_there.1, file_has w.store h.day h.files n h.is_there h.has))))
    where
      to : There w.store n → FoundHas w.store n
      to (i, l, (k, m, (f, e, h))) = found_has w.store _ f n (b.days _ _ e) e h

-- what passes a test
pub in_filter : (p : Digest → Bool) (n : Digest) (xs : List Digest) → is_in n (filter p xs) ≡ (p n && is_in n xs)
in_filter p n xs = any-filter_same (same_name n) p (p n) (λ k e. ap p (sym ((names_decide n k).0 e))) xs

ruleset decide = (keep, in_filter)

module _ {w : World} (b : Bounds w) (f : Finite w.store) (whole : IsWhole w.store) where
  open w use {store}

  -- what a look finds
  abbrev unused : Digest → Bool
  unused n = is_some (store.place n) && not (found store b.forms n)

  -- so it can look
  pub to_look : (left : List Digest) × Looked store left
  to_look = (filter unused f.all, record { whole = whole; spares = λ n h. spares n h; all = λ n l p d. all n l p d })
    where
      spares : (n : Digest) → is_in n (filter unused f.all) ≡ true → IsListed store n × IsSome (store.place n) × (FoundHas store n → ⊥)
      spares n h =
          let d = found_decides b n in
          let l = b.listed n in
          grind decide

      all : (n : Digest) → IsListed store n → IsSome (store.place n) → (FoundHas store n → ⊥) → is_in n (filter unused f.all) ≡ true
      all n l p d =
          let e = found_decides b n in
          let h = f.has n l in
          grind decide

  -- what is aside goes back, or away
  abbrev goes_back : Digest → Bool
  goes_back n = is_some (store.aside n) && found store b.forms n

  abbrev goes_away : Digest → Bool
  goes_away n = is_some (store.aside n) && not (found store b.forms n)

  -- so it can decide
  pub to_decide : (back : List Digest) × (away : List Digest) × Decided store back away
  to_decide = (filter goes_back f.all, filter goes_away f.all, record { whole = whole; goes_back = λ n h. to_back n h; goes_away = λ n h. to_away n h; all = λ n o a. all n o a })
    where
      right : (n : Digest) (o : Option (List ℕ)) → store.aside n ≡ o → IsSome o → IsRight n o
      right n (Some x) e h = b.right n x (inr e)
      right n None e h = absurd cc

      to_back : (n : Digest) → is_in n (filter goes_back f.all) ≡ true → (store.own n ≡ true) × FoundHas store n × IsRight n (store.aside n)
      to_back n h =
          let d = found_decides b n in
          let o = b.own n in
          let r = right n (store.aside n) refl in
          grind decide

      to_away : (n : Digest) → is_in n (filter goes_away f.all) ≡ true → (store.own n ≡ true) × IsSome (store.aside n) × (FoundHas store n → IsRight n (store.aside n) → ⊥)
      to_away n h =
          let d = found_decides b n in
          let o = b.own n in
          grind decide

      all : (n : Digest) → store.own n ≡ true → IsSome (store.aside n) → (is_in n (filter goes_back f.all) ≡ true) ⊎ (is_in n (filter goes_away f.all) ≡ true)
      all n o a =
          let h : is_in n f.all ≡ true = f.has n (inr o) in
          grind decide
