-- The world of a script as a world of the system of all machines and the sweeper, and what is promised of it.
-- Assumes nothing.
use Rattle.std.specs.Prelude.{◌≡◌, ◌⊎◌, ℕ, Bool, true, false, List, Contains, IsSome, Ok, Some, Option, Result, Vec}
use Rattle.std.specs.declared.alloc.Global.{Global}
use Rattle.cutting.specs.declared.refusal.Refusal.{Refusal}
use Rattle.cutting.specs.declared.refusal.Refusal.TheVariants.{TooManyNames}
use Rattle.cutting.specs.Refusals.{number_of}
use Rattle.digest.specs.declared.value.Digest.{Digest}
use Rattle.store.specs.Memories.{state_of}
use Rattle.dayfile.specs.Entries.{Entry}
use Rattle.dayfile.specs.Stored.{HasFiles}
use Rattle.days.specs.Files.{GivenBack}
use Rattle.days.specs.Promise.{OnlyLists, file_entry}
use Rattle.script.specs.Lines.{first}
use Rattle.sweeper.specs.Pieces.{IsThere}
use Rattle.sweeper.specs.Sweepers.{sweeping}
use Rattle.promise.specs.Promise.{DayHas, MachineHas}
use Rattle.promise.specs.Runs.{Reached, Run}
use Rattle.promise.specs.System as system
use Rattle.rehearsal.specs.declared.answer.Answer.{Answer}
use Rattle.rehearsal.specs.declared.answer.Answer.TheVariants as answer
use Rattle.rehearsal.specs.declared.name.StepName.TheVariants as name
use Rattle.rehearsal.specs.declared.unplayed.Unplayed.{Unplayed}
use Rattle.rehearsal.specs.declared.unplayed.Unplayed.TheVariants as unplayed
use Rattle.rehearsal.specs.declared.world.World.{World}
use Rattle.rehearsal.specs.Numbering.{machine_numbers}
use Rattle.rehearsal.specs.Names.{name_text}
use Rattle.rehearsal.specs.Worlds.{makes_at}

-- what the store holds, what each machine makes, and what the sweeper does
abbrev pub system_of : World → system.World
system_of w = record { store = state_of w.store; makes = makes_at w; sweeper = sweeping w.sweeper }

-- some steps of the system lead there from the beginning, so that all that is promised of every mixture is so of this world
abbrev pub IsReached : World → Type 0
IsReached w = Reached machine_numbers (system_of w)

-- every piece of every kept day is in its place or aside, and so is every piece that a machine on the list has seen to for the day that it is making
abbrev pub LosesNothing : World → Type 0
LosesNothing w = (n : Digest) → (DayHas (system_of w) n → IsThere (state_of w.store) n) × (MachineHas (system_of w) n → IsThere (state_of w.store) n)

-- so it is where nothing was damaged
abbrev pub IsSound : Bool → World → Type 0
IsSound damaged w = damaged ≡ false → IsReached w

-- by its answer, a line has damaged something
abbrev pub is_damage : {E : Type 0} → Result (Option Answer) E → Bool
is_damage (Ok (Some answer.Flipped)) = true
is_damage (Ok (Some answer.Cut)) = true
is_damage other = false

-- a line has, or some steps of the system lead from one world to the next
abbrev pub RunsOrDamages : {E : Type 0} → Result (Option Answer) E → World → World → Type 0
RunsOrDamages r w v = (is_damage r ≡ true) ⊎ Run (system_of w) (system_of v)

-- nothing is changed but what is in the lists of machines
abbrev pub LeavesMost : World → World → Type 0
LeavesMost w v = OnlyLists (state_of w.store) (state_of v.store) × (makes_at v ≡ makes_at w) × (sweeping v.sweeper ≡ sweeping w.sweeper)

-- a file is refused because the lists are full
abbrev pub IsFull : List ℕ → Refusal → Type 0
IsFull l r = (first l ≡ name_text name.File) × (r ≡ TooManyNames)

-- A line that is not played leaves everything as it was, where it is no step or is refused by a number. But where the lists are full, the names of some pieces of a file may be listed before it is refused; none of them is written.
abbrev pub LeavesAll : List ℕ → Unplayed → World → World → Type 0
LeavesAll l (unplayed.Fault f) w v = v ≡ w
LeavesAll l (unplayed.Refusal r) w v = (k : ℕ) → number_of r ≡ Some k → LeavesMost w v × ((IsFull l r → ⊥) → system_of v ≡ system_of w)

-- Where steps of the system have led to this world from one in which day k of machine i had this file under this path, and the day is still there, the file is given back to the last byte, unless there is no memory; or else two different strings with one SHA-256 are at hand.
abbrev pub GivesBack : ℕ → ℕ → List ℕ → World → Result (Vec ℕ Global) Refusal → Type 0
GivesBack i k path w a =
    (v : system.World) → Reached machine_numbers v → Run v (system_of w) → (es : List Entry) (file : List ℕ) → HasFiles v.store (record { machine = i; number = k }) es → Contains es (file_entry path file) →
    IsSome ((state_of w.store).days (record { machine = i; number = k })) → GivenBack (state_of w.store) file a
