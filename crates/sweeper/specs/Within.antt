-- Each step of the code is a step of the system, or none where it is refused; it is two where a name is listed before its piece is put aside, and where the sweeper rests after its last turn.
-- Assumes nothing.
use Rattle.std.specs.Prelude.{ℕ, suc, Ok, Result}
use Rattle.cutting.specs.declared.refusal.Refusal.{Refusal}
use Rattle.store.specs.Asking.{Doing, IsExact}
use Rattle.store.specs.State.{State}
use Rattle.sweeper.specs.declared.done.Done.{Done}
use Rattle.sweeper.specs.declared.sweeper.Sweeper.{Sweeper}
use Rattle.sweeper.specs.Steps.{ComesUp, Decides, Looks, Nexts, Notes, PutsAside}
use Rattle.sweeper.specs.Sweepers.{Sweeping, sweeping}
use Rattle.sweeper.specs.System.{Step, World}

-- some steps, one after the other: at most n of them
pub data Within : ℕ → World → World → Type 0 where
  still : {n : ℕ} {w : World} → Within n w w
  onward : {n : ℕ} {u v w : World} → Within n u v → Step v w → Within (suc n) u w

module _ {S : Type 0} (does : Doing S) where
  -- every such step is at most n steps of the system, if the store is exact
  abbrev pub IsWithin : ℕ → (Sweeping → S → Result Done Refusal → Sweeping → S → Type 0) → Type 0
  IsWithin n step =
      (holds : S → State) → IsExact holds does → (old new : Sweeping) (s t : S) (a : Result Done Refusal) →
      step old s a new t → Within n (record { store = holds s; sweeper = old }) (record { store = holds t; sweeper = new })

  -- all steps are
  pub record AreSteps : Type 0 where
    pub looks : IsWithin 1 (Looks does)
    pub puts_aside : IsWithin 2 (PutsAside does)
    pub notes : IsWithin 1 (Notes does)
    pub decides : IsWithin 2 (Decides does)
    pub nexts : IsWithin 2 (Nexts does)
    -- a stop, after which a sweeper comes up
    pub comes_up : (holds : S → State) → IsExact holds does → (old : Sweeping) (s t : S) (w : Sweeper) →
        ComesUp does s (Ok w) t → Within 1 (record { store = holds s; sweeper = old }) (record { store = holds t; sweeper = sweeping w })
