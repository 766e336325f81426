-- What reading the list of machines answers.
-- Assumes nothing.
use Rattle.std.specs.Prelude.{◌≡◌, ⊤, ℕ, List, Ok, Err, Result, Vec, vec_items}
use Rattle.std.specs.declared.alloc.Global.{Global}
use Rattle.layout.specs.declared.fault.MachinesFault.{MachinesFault}
use Rattle.layout.specs.declared.fault.MachinesFault.TheVariants.{NoMemory}
use Rattle.layout.specs.declared.fault.MachinesFault.TheVariants as fault
use Rattle.layout.specs.declared.line.Line.{Line}
use Rattle.layout.specs.declared.machines.Found.{Found}
use Rattle.layout.specs.Machines.{Reading, machines_in, with_line}

-- what is read of the lines so far, as it lies in memory
abbrev pub reading_of : Found → Reading
reading_of f = record { machines = vec_items f.machines; ended = f.ended }

-- the line of this number is taken in, or it has a fault; or there is no memory
abbrev pub TakesIn : Reading → ℕ → Line → Reading → Result (Unit {0}) MachinesFault → Type 0
TakesIn r n l s (Ok _) = with_line r l ≡ Ok s
TakesIn r n l s (Err (fault.Line m f)) = (m ≡ n) × (with_line r l ≡ Err f)
TakesIn r n l s (Err fault.NoMemory) = ⊤
TakesIn r n l s (Err fault.NoEnd) = ⊥

-- the machines on the list, or its first fault; or there is no memory
abbrev pub ReadsMachines : List ℕ → Result (Vec ℕ Global) MachinesFault → Type 0
ReadsMachines text (Ok v) = machines_in text ≡ Ok (vec_items v)
ReadsMachines text (Err NoMemory) = ⊤
ReadsMachines text (Err f) = machines_in text ≡ Err f
