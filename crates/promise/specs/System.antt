-- Everything that may happen to a store: steps of any machines and of the sweeper, in any mixture.
-- Assumes nothing.
use Rattle.std.specs.Prelude.{◌≡◌, ℕ, ◌<◌, true, List, None, Option, nat_eq}
use Rattle.std.specs.List.{list_any}
use Rattle.store.specs.Effects.{without_machine}
use Rattle.store.specs.State.{State, empty, most_machines}
use Rattle.days.specs.Machines.{Work}
use Rattle.days.specs.System as machines
use Rattle.sweeper.specs.Sweepers.{Sweeping, rests}
use Rattle.sweeper.specs.System as sweeping

-- the store, what each machine makes, and what the sweeper does
pub record World : Type 0 where
  pub store : State
  pub makes : ℕ → Option Work
  pub sweeper : Sweeping

-- the machines and what they play on, with a sweeper that does this; the sweeper and what it plays on, with machines that make this
abbrev pub beside_sweeper : machines.World → Sweeping → World
beside_sweeper v x = record { store = v.store; makes = v.makes; sweeper = x }

abbrev pub beside_machines : sweeping.World → (ℕ → Option Work) → World
beside_machines v m = record { store = v.store; makes = m; sweeper = v.sweeper }

-- one step
pub data Step : World → World → Type 0 where
  -- of a machine, which may be that it stops; or a day is let go
  by_machine : {v w : machines.World} (x : Sweeping) → machines.Step v w → Step (beside_sweeper v x) (beside_sweeper w x)
  -- of the sweeper, which may be that it stops
  by_sweeper : {v w : sweeping.World} (m : ℕ → Option Work) → sweeping.Step v w → Step (beside_machines v m) (beside_machines w m)
  -- a person takes a machine off the list that is gone for good
  parts : (w : World) (i : ℕ) → w.store.machines i ≡ true → Step w (record w { store = without_machine i w.store })

-- these are numbers that machines may have
abbrev pub AreMachines : List ℕ → Type 0
AreMachines ms = (i : ℕ) → list_any (nat_eq i) ms ≡ true → i < most_machines

-- the beginning: nothing is there, these machines are on the list, none makes a day, and the sweeper rests
abbrev pub start : List ℕ → World
start ms = record { store = empty ms; makes = λ i. None; sweeper = rests }
