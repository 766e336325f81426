-- The words of what is wrong with a list of machines.
-- Assumes nothing.
use Rattle.std.specs.Prelude.{ℕ, List, ◌++◌, codes, decimal}
use Rattle.layout.specs.declared.fault.LineFault.{LineFault}
use Rattle.layout.specs.declared.fault.LineFault.TheVariants.{NotANumber, Twice, BehindEnd}
use Rattle.layout.specs.declared.fault.MachinesFault.{MachinesFault}
use Rattle.layout.specs.declared.fault.MachinesFault.TheVariants.{NoEnd, Line, NoMemory}

-- what is wrong with a line
abbrev pub line_text : LineFault → List ℕ
line_text NotANumber = codes "it does not begin with the number of a machine, from 0 to 63"
line_text (Twice m) = codes "machine " ++ (decimal m ++ codes " stands there twice")
line_text BehindEnd = codes "something stands behind `end`"

abbrev pub fault_text : MachinesFault → List ℕ
fault_text NoEnd = codes "it has no last line `end`, so it was cut"
fault_text (Line n f) = codes "line " ++ (decimal n ++ (codes ": " ++ line_text f))
fault_text NoMemory = codes "there is not enough memory"
