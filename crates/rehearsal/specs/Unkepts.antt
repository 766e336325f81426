-- Lines that are not kept.
-- Assumes nothing.
use Rattle.std.specs.Prelude.{ℕ, ◌<◌, List, length}
use Rattle.script.specs.declared.fault.Fault.{Fault}
use Rattle.script.specs.declared.fault.Fault.TheVariants as fault
use Rattle.rehearsal.specs.declared.unkept.Unkept.{Unkept}
use Rattle.rehearsal.specs.declared.unkept.Unkept.TheVariants.{TooLong, NoMemory}
use Rattle.rehearsal.specs.Answers.{most}

-- a line that is not kept is too long, or has bytes, for which there was no memory
abbrev pub IsUnkept : Unkept → List ℕ → Type 0
IsUnkept TooLong l = most < length l
IsUnkept NoMemory l = 0 < length l

-- the fault that its answer names
abbrev pub fault_of : Unkept → Fault
fault_of TooLong = fault.TooLong
fault_of NoMemory = fault.NoMemory
