-- What every step keeps, of numbers, lists and what is kept of the sweeper.
-- Assumes nothing.
use Rattle.std.proofs.Common.{◌≡◌, ◌⊎◌, ℕ, ◌<◌, ◌≤◌, true, List, Some, None, Option, IsSome, arith}
use Rattle.digest.specs.declared.value.Digest.{Digest}
use Rattle.digest.specs.Digests.{digest_of}
use Rattle.store.specs.declared.day.DayName.{DayName}
use Rattle.store.specs.declared.sweep.Sweep.{Sweep}
use Rattle.store.specs.declared.sweep.Sweep.TheVariants as kept
use Rattle.store.specs.State.{State, most_machines}
use Rattle.days.specs.Machines.{Work}
use Rattle.days.specs.System as machines
use Rattle.sweeper.specs.Pieces.{IsFound, IsListed}
use Rattle.sweeper.specs.Sweepers.{Sweeping, anew, ends, noted_of, puts, rests, waits}
use Rattle.sweeper.specs.System as sweeping
use Rattle.promise.specs.Runs.{Reached, Run, onward, still}
use Rattle.promise.specs.System.{AreMachines, Step, World, beside_machines, beside_sweeper, by_machine, by_sweeper, parts, start}
use Rattle.promise.proofs.Forms.{Fit, IsForm, no_files, to_fit, to_form}
use Rattle.promise.proofs.Names.{tests}

-- the number of a day under way is its machine's highest, and no day has it
abbrev pub NumberIs : State → ℕ → Option ℕ → Type 0
NumberIs s i None = Unit {0}
NumberIs s i (Some k) = (k ≡ s.highest i) × (1 ≤ k) × (s.days (record { machine = i; number = k }) ≡ None)

abbrev pub Numbered : State → ℕ → Option Work → Type 0
Numbered s i None = Unit {0}
Numbered s i (Some x) = (i < most_machines) × NumberIs s i x.number

-- what is kept of what the sweeper does
abbrev pub IsKept : Sweeping → Sweep → Type 0
IsKept rests kept.Rests = Unit {0}
IsKept (puts left) kept.Rests = Unit {0}
IsKept (waits h) (kept.Waits g) = h ≡ g
IsKept (ends back away) kept.Ends = Unit {0}
IsKept anew kept.Ends = Unit {0}
IsKept _ _ = ⊥

-- no noted number is above its machine's highest
abbrev pub Noted : State → Sweeping → Type 0
Noted s (waits h) = (i : ℕ) → i < most_machines → noted_of h i ≤ s.highest i
Noted s other = Unit {0}

-- What lies there is of its name, listed, and aside only if the sweeper lists it; machines, days and numbers are in their bounds, and days and those under way of their form.
pub record Bounds (w : World) : Type 0 where
  pub right : (n : Digest) (b : List ℕ) → (w.store.place n ≡ Some b) ⊎ (w.store.aside n ≡ Some b) → digest_of b ≡ n
  pub on_list : (i : ℕ) → w.store.machines i ≡ true → i < most_machines
  pub days : (d : DayName) (b : List ℕ) → w.store.days d ≡ Some b → IsFound w.store d
  pub forms : (d : DayName) (b : List ℕ) → w.store.days d ≡ Some b → IsForm d b
  pub files : (i : ℕ) (c : Work) → w.makes i ≡ Some c → Fit c.files
  pub numbered : (i : ℕ) → Numbered w.store i (w.makes i)
  pub listed : (n : Digest) → IsSome (w.store.place n) ⊎ IsSome (w.store.aside n) → IsListed w.store n
  pub own : (n : Digest) → IsSome (w.store.aside n) → w.store.own n ≡ true
  pub is_kept : IsKept w.sweeper w.store.sweep
  pub noted : Noted w.store w.sweeper

ruleset keep = (arith, tests)

-- each step keeps the bounds
by_machines : (x : Sweeping) {v w : machines.World} → machines.Step v w → Bounds (beside_sweeper v x) → Bounds (beside_sweeper w x)
by_machines x (machines.begins w i o e) b = let f = no_files in grind keep
by_machines x (machines.finds w i d p m l e) b = grind keep
by_machines x (machines.lists w i d n m o l) b = grind keep
by_machines x (machines.writes w i d p m l o) b = grind keep
by_machines x (machines.adds w i d e m s f) b = let g = to_fit f in grind keep
by_machines x (machines.forgets w i d m) b = grind keep
by_machines x (machines.raises w i d m l) b = grind keep
by_machines x (machines.names w i d k o e n f) b =
    let g = to_form (record { machine = i; number = k }) d.files (b.files i d e) in
    grind keep
by_machines x (machines.breaks w i) b = grind keep
by_machines x (machines.lets_go w day e) b = grind keep

by_sweepers : (m : ℕ → Option Work) {v w : sweeping.World} → sweeping.Step v w → Bounds (beside_machines v m) → Bounds (beside_machines w m)
by_sweepers m (sweeping.looks w left e l) b = grind keep
by_sweepers m (sweeping.lists w n left e o l) b = grind keep
by_sweepers m (sweeping.puts_aside w n left e o) b = grind keep
by_sweepers m (sweeping.notes w h e f) b = grind keep
by_sweepers m (sweeping.decides w h back away e f d) b = grind keep
by_sweepers m (sweeping.decides_anew w back away e d) b = grind keep
by_sweepers m (sweeping.puts_back w n back away e) b = grind keep
by_sweepers m (sweeping.throws w n away e) b = grind keep
by_sweepers m (sweeping.rests_again w e) b = grind keep
by_sweepers m (sweeping.stops w) b = grind keep

pub bounds_step : {v w : World} → Step v w → Bounds v → Bounds w
bounds_step (by_machine x k) b = by_machines x k b
bounds_step (by_sweeper m k) b = by_sweepers m k b
bounds_step (parts w i o) b = grind keep

-- and so does a run
pub bounds_run : {v w : World} → Run v w → Bounds v → Bounds w
bounds_run still b = b
bounds_run (onward r k) b = bounds_step k (bounds_run r b)

-- at the beginning
pub bounds_start : (ms : List ℕ) → AreMachines ms → Bounds (start ms)
bounds_start ms a = grind keep

-- and so always
pub bounds : (ms : List ℕ) {w : World} → AreMachines ms → Reached ms w → Bounds w
bounds ms a r = bounds_run r (bounds_start ms a)
