-- What a program says of a call that it did not do.
-- Assumes nothing.
use Rattle.std.specs.Prelude.{ℕ, Bool, true, false, Option, Some, None}
use Rattle.cutting.specs.declared.refusal.Refusal.{Refusal}
use Rattle.cutting.specs.declared.refusal.Refusal.TheVariants as refusal
use Rattle.store.specs.declared.day.DayName.{DayName}
use Rattle.commands.specs.declared.asked.Place.{Place}
use Rattle.commands.specs.declared.list_file.LineFault.{LineFault}
use Rattle.commands.specs.declared.list_file.LineFault.TheVariants as line
use Rattle.commands.specs.declared.program.Program.{Program}
use Rattle.commands.specs.declared.program.Program.TheVariants as program
use Rattle.commands.specs.declared.trouble.Trouble.{Trouble}
use Rattle.commands.specs.declared.trouble.Trouble.TheVariants as trouble

-- the number that is given
abbrev pub number_told : Trouble → Option ℕ
number_told (trouble.Told t) = t.number
number_told (trouble.Failed text) = None

-- why a line of the list of a day is refused; none where no rule is broken
abbrev pub broken : LineFault → Option Refusal
broken line.BadPath = Some refusal.BadPath
broken line.TooManyFiles = Some refusal.TooManyFiles
broken line.NotAbove = Some refusal.PathNotAbove
broken line.NoText = None
broken line.NoMemory = Some refusal.NoMemory

-- these two say how far they are, where that is wanted
abbrev pub telling : Program → Bool
telling program.Init = false
telling program.Day = true
telling program.List = false
telling program.Back = false
telling program.Go = false
telling program.Sweep = true

-- a day as it is named in messages
abbrev pub place_named : DayName → Place
place_named d = record { machine = d.machine; number = d.number }
