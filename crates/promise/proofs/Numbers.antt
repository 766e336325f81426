-- Days stay as they were made, and their numbers are used once.
-- Assumes nothing.
use Rattle.std.proofs.lemmas.Bool.{cases_lt}
use Rattle.std.proofs.lemmas.Bool.Decides.{eqb_tells}
use Rattle.std.proofs.Common.{⊎_elim, ◌≡◌, ◌⊎◌, ℕ, ◌<◌, ◌≤◌, inl, inr, refl, List, Some, None, Option, arith}
use Rattle.store.specs.declared.day.DayName.{DayName}
use Rattle.store.specs.Effects.{with_day}
use Rattle.days.specs.Machines.{Work}
use Rattle.days.specs.System as machines
use Rattle.sweeper.specs.Sweepers.{Sweeping}
use Rattle.sweeper.specs.System as sweeping
use Rattle.promise.specs.Promise.{DaysAreMade, IsMade, DaysStay, NumbersAreUsedOnce, NumbersRise}
use Rattle.promise.specs.Runs.{Run, onward, still}
use Rattle.promise.specs.System.{World, beside_machines, beside_sweeper, by_machine, by_sweeper, parts}
use Rattle.promise.proofs.Bounds.{Bounds, bounds}
use Rattle.promise.proofs.Names.{day_tells, tests}

ruleset keep = (arith, tests)

-- a day stays, or that day is let go and nothing else happens
abbrev pub Stays : DayName → List ℕ → World → World → Type 0
Stays d b v w = (w.store.days d ≡ Some b) ⊎ (w ≡ record v { store = with_day d None v.store })

-- one of these is so of each step
stays_by_machine : (d : DayName) (b : List ℕ) (x : Sweeping) {v w : machines.World} → machines.Step v w → v.store.days d ≡ Some b → Stays d b (beside_sweeper v x) (beside_sweeper w x)
stays_by_machine d b x (machines.lets_go w day o) e = grind keep
stays_by_machine d b x (machines.names w i y k o f n g) e = inl (grind keep)
stays_by_machine d b x other e = inl (grind keep)

stays_by_sweeper : (d : DayName) (b : List ℕ) (m : ℕ → Option Work) {v w : sweeping.World} → sweeping.Step v w → v.store.days d ≡ Some b → Stays d b (beside_machines v m) (beside_machines w m)
stays_by_sweeper d b m (sweeping.stops w) e = inl e
stays_by_sweeper d b m other e = inl (grind keep)

pub days_stay : DaysStay
days_stay ms a v r w (by_machine x k) d b e = stays_by_machine d b x k e
days_stay ms a v r w (by_sweeper m k) d b e = stays_by_sweeper d b m k e
days_stay ms a v r w (parts u i o) d b e = inl e

-- a step by which there is a new day is the one that names it
made_by_machine : (d : DayName) (b : List ℕ) (x : Sweeping) {v w : machines.World} → machines.Step v w → v.store.days d ≡ None → w.store.days d ≡ Some b → IsMade d b (beside_sweeper v x) (beside_sweeper w x)
made_by_machine d b x (machines.names w i y k o f n g) e h = let t = day_tells (record { machine = i; number = k }) d in record { work = y; makes = grind keep; number = grind keep; file = grind keep; done = grind keep }
made_by_machine d b x other e h = absurd (grind keep)

made_by_sweeper : (d : DayName) (b : List ℕ) (m : ℕ → Option Work) {v w : sweeping.World} → sweeping.Step v w → v.store.days d ≡ None → w.store.days d ≡ Some b → ⊥
made_by_sweeper d b m (sweeping.stops w) e h = grind keep
made_by_sweeper d b m other e h = grind keep

pub days_are_made : DaysAreMade
days_are_made ms a v r w (by_machine x k) d b e h = made_by_machine d b x k e h
days_are_made ms a v r w (by_sweeper m k) d b e h = absurd (made_by_sweeper d b m k e h)
days_are_made ms a v r w (parts u i o) d b e h = absurd (grind keep)

-- the day under way, if there is one, does not have this number
abbrev pub IsNotNext : Option Work → ℕ → Type 0
IsNotNext None k = Unit {0}
IsNotNext (Some x) k = x.number ≡ Some k → ⊥

-- a number is passed: no day gets it any more, and the day that had it is the same or gone
record Passed (d : DayName) (o : Option (List ℕ)) (w : World) : Type 0 where
  not_above : d.number ≤ w.store.highest d.machine
  not_next : IsNotNext (w.makes d.machine) d.number
  is : (w.store.days d ≡ None) ⊎ (w.store.days d ≡ o)

-- it stays so
passed_by_machine : (d : DayName) (o : Option (List ℕ)) (x : Sweeping) {v w : machines.World} → machines.Step v w → Passed d o (beside_sweeper v x) → Passed d o (beside_sweeper w x)
passed_by_machine d o x (machines.begins w i l e) p = grind keep
passed_by_machine d o x (machines.finds w i y b m l e) p = grind keep
passed_by_machine d o x (machines.lists w i y n m e l) p = grind keep
passed_by_machine d o x (machines.writes w i y b m l e) p = grind keep
passed_by_machine d o x (machines.adds w i y f m s e) p = grind keep
passed_by_machine d o x (machines.forgets w i y m) p = grind keep
passed_by_machine d o x (machines.raises w i y m l) p = grind keep
passed_by_machine d o x (machines.names w i y k l e n f) p = grind keep
passed_by_machine d o x (machines.breaks w i) p = grind keep
passed_by_machine d o x (machines.lets_go w day e) p = grind keep

passed_by_sweeper : (d : DayName) (o : Option (List ℕ)) (m : ℕ → Option Work) {v w : sweeping.World} → sweeping.Step v w → Passed d o (beside_machines v m) → Passed d o (beside_machines w m)
passed_by_sweeper d o m (sweeping.stops w) p = grind keep
passed_by_sweeper d o m other p = grind keep

passed_run : (d : DayName) (o : Option (List ℕ)) {v w : World} → Run v w → Passed d o v → Passed d o w
passed_run d o still p = p
passed_run d o (onward r (by_machine x k)) p = passed_by_machine d o x k (passed_run d o r p)
passed_run d o (onward r (by_sweeper m k)) p = passed_by_sweeper d o m k (passed_run d o r p)
passed_run d o (onward r (parts u i e)) p = let q = passed_run d o r p in grind keep

-- so is the number of every day that there is
passed : {w : World} → Bounds w → (d : DayName) (b : List ℕ) → w.store.days d ≡ Some b → Passed d (Some b) w
passed {w} a d b e = let f = a.days d b e in let g = a.numbered d.machine in grind keep

pub numbers_are_used_once : NumbersAreUsedOnce
numbers_are_used_once ms a u r v w k l =
    record {
      same = λ d b c e f. let p = passed_run d (Some b) l (passed_run d (Some b) k (passed (bounds ms a r) d b e)) in grind keep;
      never_again = λ d b e f. let p = passed_run d (Some b) k (passed (bounds ms a r) d b e) in let q = passed_run d None l (record { not_above = p.not_above; not_next = p.not_next; is = inl f }) in grind keep;
    }

-- whether it is this number; whether the day under way has it
is_number : (o : Option ℕ) (k : ℕ) → (o ≡ Some k) ⊎ (o ≡ Some k → ⊥)
is_number None k = inr (λ e. absurd cc)
is_number (Some n) k = let t = eqb_tells n k in grind arith

is_next : (m : Option Work) (k : ℕ) → ((x : Work) × (m ≡ Some x) × (x.number ≡ Some k)) ⊎ IsNotNext m k
is_next None k = inr tt
is_next (Some x) k = ⊎_elim (λ e. inl (x, refl, e)) inr (is_number x.number k)

-- a number that is not above all and was not raised for the day under way is passed, and no day gets it
pub numbers_rise : NumbersRise
numbers_rise ms a v r w k d b e f = by (cases_lt (v.store.highest d.machine) d.number) (is_next (v.makes d.machine) d.number)
  where
    Raised : Type 0
    Raised = (x : Work) × (v.makes d.machine ≡ Some x) × (x.number ≡ Some d.number)

    by : (v.store.highest d.machine < d.number) ⊎ (d.number ≤ v.store.highest d.machine) → Raised ⊎ IsNotNext (v.makes d.machine) d.number → (v.store.highest d.machine < d.number) ⊎ Raised
    by (inl h) n = inl h
    by (inr h) (inl n) = inr n
    by (inr h) (inr n) =
        let p = passed_run d None k (record { not_above = h; not_next = n; is = inl e }) in
        absurd (grind keep)
