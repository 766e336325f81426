-- What a script plays on.
-- Assumes nothing.
use Rattle.std.specs.Prelude.{◌≡◌, ◌≢◌, ◌⊎◌, ℕ, ◌+◌, ◌<◌, ◌≤◌, true, false, List, take, Ok, Err, Some, None, Option, Result, Vec, slice_get, vec_items}
use Rattle.std.specs.declared.alloc.Global.{Global}
use Rattle.std.specs.Option.{option_and_then}
use Rattle.cutting.specs.declared.refusal.Refusal.{Refusal}
use Rattle.cutting.specs.declared.refusal.Refusal.TheVariants.{Unknown}
use Rattle.digest.specs.declared.value.Digest.{Digest}
use Rattle.store.specs.declared.day.DayName.{DayName}
use Rattle.store.specs.declared.memory.Memory.{Memory}
use Rattle.store.specs.declared.piece.Spot.{Spot}
use Rattle.store.specs.Damages.{Damages, flipped}
use Rattle.store.specs.Effects.{lies, with_day, with_lying, without_machine}
use Rattle.store.specs.Memories.{state_of}
use Rattle.store.specs.Requests.{LetGo, ReadDay, Bytes, Refused, done}
use Rattle.store.specs.State.{empty}
use Rattle.days.specs.Backs.{Backs}
use Rattle.days.specs.declared.done.Done.{Done}
use Rattle.days.specs.Machines.{Work, makes}
use Rattle.sweeper.specs.declared.done.Done as swept
use Rattle.sweeper.specs.Steps.{ComesUp}
use Rattle.sweeper.specs.Sweepers.{rests, sweeping}
use Rattle.rehearsal.specs.declared.step.Act.{Act}
use Rattle.rehearsal.specs.declared.step.Move.{Move}
use Rattle.rehearsal.specs.declared.world.World.{World}
use Rattle.rehearsal.specs.Acts.{Acts, Fits, SweepsAs, Unfit, memory_does}
use Rattle.rehearsal.specs.Numbering.{machine_numbers}

-- what machine i makes
abbrev pub makes_at : World → ℕ → Option Work
makes_at w i = option_and_then makes (slice_get (vec_items w.machines) i)

-- the store is empty, the machines are on its list, none makes a day, and the sweeper rests
abbrev pub IsNew : World → Type 0
IsNew w = (state_of w.store ≡ empty machine_numbers) × ((i : ℕ) → makes_at w i ≡ None) × (sweeping w.sweeper ≡ rests)

-- machine i does this, the others make what they made, and the sweeper does what it did; or it is not fit, or else there is no such machine, and nothing is done
abbrev pub ActsIn : Act → ℕ → World → Result Done Refusal → World → Type 0
ActsIn act i w a v =
    ((r : Refusal) × (a ≡ Err r) × Unfit act r × (v ≡ w))
    ⊎ (Fits act
    × (((4 ≤ i) × (a ≡ Err Unknown) × (v ≡ w))
    ⊎ ((i < 4) × Acts act i (makes_at w i) w.store a (makes_at v i) v.store × ((j : ℕ) → j ≢ i → makes_at v j ≡ makes_at w j) × (v.sweeper ≡ w.sweeper))))

-- the machines make what they made, and the sweeper does what it did
abbrev pub OnlyStore : World → World → Type 0
OnlyStore w v = (v.machines ≡ w.machines) × (v.sweeper ≡ w.sweeper)

-- something is done with day k of machine i that leads the store on; or no machine may have the number i, and nothing is done
abbrev pub AtDay : {A : Type 0} → (DayName → Memory → Result A Refusal → Memory → Type 0) → ℕ → ℕ → World → Result A Refusal → World → Type 0
AtDay go i k w r v =
    ((i < 256) × go (record { machine = i; number = k }) w.store r v.store × OnlyStore w v)
    ⊎ ((256 ≤ i) × (r ≡ Err Unknown) × (v ≡ w))

-- the day is let go
abbrev pub LetsGo : ℕ → ℕ → World → Result (Unit {0}) Refusal → World → Type 0
LetsGo i k w r v = AtDay (λ d s r t. memory_does s (LetGo d) (done r) t) i k w r v

-- the file of a path in it is had back
abbrev pub HasBack : ℕ → ℕ → List ℕ → World → Result (Vec ℕ Global) Refusal → World → Type 0
HasBack i k path w r v = AtDay (λ d s r t. Backs memory_does d path s r t) i k w r v

-- the bytes that lie under its name are read; or none do
abbrev pub DayRead : DayName → Memory → Result (Vec ℕ Global) Refusal → Memory → Type 0
DayRead d s (Ok v) t = memory_does s (ReadDay d) (Bytes (Some (vec_items v))) t
DayRead d s (Err r) t = memory_does s (ReadDay d) (Refused r) t ⊎ (memory_does s (ReadDay d) (Bytes None) t × (r ≡ Unknown))

abbrev pub ReadsDay : ℕ → ℕ → World → Result (Vec ℕ Global) Refusal → World → Type 0
ReadsDay i k w r v = AtDay DayRead i k w r v

-- damage: a byte is turned round of what lies there under a name, or under that of a day; or only so many bytes are left
abbrev pub FlipsPiece : Spot → ℕ → Digest → World → Result (Unit {0}) Refusal → World → Type 0
FlipsPiece spot at n w r v = Damages (lies spot (state_of w.store) n) (at + 1) (flipped at) (with_lying spot n) (state_of w.store) r (state_of v.store) × OnlyStore w v

abbrev pub DayHarmed : ℕ → (List ℕ → List ℕ) → DayName → Memory → Result (Unit {0}) Refusal → Memory → Type 0
DayHarmed least harm d s r t = Damages ((state_of s).days d) least harm (with_day d) (state_of s) r (state_of t)

abbrev pub FlipsDay : ℕ → ℕ → ℕ → World → Result (Unit {0}) Refusal → World → Type 0
FlipsDay i k at w r v = AtDay (DayHarmed (at + 1) (flipped at)) i k w r v

abbrev pub CutsDay : ℕ → ℕ → ℕ → World → Result (Unit {0}) Refusal → World → Type 0
CutsDay i k n w r v = AtDay (DayHarmed n (take n)) i k w r v

-- machine i is taken off the list of machines; or it is not on it, and nothing is done
abbrev pub Parts : ℕ → World → Result (Unit {0}) Refusal → World → Type 0
Parts i w (Ok x) v =
    ((state_of w.store).machines i ≡ true) × (state_of v.store ≡ without_machine i (state_of w.store)) × OnlyStore w v
Parts i w (Err r) v = (r ≡ Unknown) × ((256 ≤ i) ⊎ ((state_of w.store).machines i ≡ false)) × (v ≡ w)

-- the sweeper does this, and the machines make what they made
abbrev pub Sweeps : Move → World → Result swept.Done Refusal → World → Type 0
Sweeps m w a v = SweepsAs m (sweeping w.sweeper) w.store a (sweeping v.sweeper) v.store × (v.machines ≡ w.machines)

-- the sweeper stops, and comes up with what is kept; or that cannot be asked for, and it goes on with what it did
abbrev pub Stops : World → Result (Unit {0}) Refusal → World → Type 0
Stops w (Ok x) v = ComesUp memory_does w.store (Ok v.sweeper) v.store × (v.machines ≡ w.machines)
Stops w (Err r) v = ComesUp memory_does w.store (Err r) v.store × OnlyStore w v
