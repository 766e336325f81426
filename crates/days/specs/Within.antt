-- Each step of the code is a step of the system, or none where it is refused. Adding a file is more: for each piece at most one that lists its name and one that sees to it, and one that adds the file or forgets what was seen to for it.
-- Assumes nothing.
use Rattle.std.specs.Prelude.{◌≡◌, ℕ, ◌+◌, ◌*◌, List, length, Option, Result}
use Rattle.cutting.specs.Rule.{pieces}
use Rattle.cutting.specs.declared.refusal.Refusal.{Refusal}
use Rattle.store.specs.Asking.{Doing, IsExact}
use Rattle.store.specs.State.{State}
use Rattle.days.specs.declared.done.Done.{Done}
use Rattle.days.specs.Machines.{Work}
use Rattle.days.specs.Steps.{Adds, Begins, Breaks, Names, Raises, Sees}
use Rattle.days.specs.System.{World, Within, world}

module _ {S : Type 0} (does : Doing S) where
  -- every such step of a machine is at most n steps of the system, whatever the other machines make, if the store is exact
  abbrev pub IsWithin : ℕ → (ℕ → Option Work → S → Result Done Refusal → Option Work → S → Type 0) → Type 0
  IsWithin n step =
      (holds : S → State) → IsExact holds does → (w : World) (i : ℕ) (s t : S) (a : Result Done Refusal) (new : Option Work) →
      w.store ≡ holds s → step i (w.makes i) s a new t → Within n w (world (holds t) i new w)

  -- all steps are
  pub record AreSteps : Type 0 where
    pub begins : IsWithin 1 (Begins does)
    pub sees : (p : List ℕ) → IsWithin 3 (λ i. Sees does i p)
    pub adds : (path file : List ℕ) → IsWithin (2 * length (pieces file) + 1) (λ i. Adds does i path file)
    pub raises : IsWithin 1 (Raises does)
    pub names : IsWithin 1 (Names does)
    pub breaks : IsWithin 1 (Breaks does)
