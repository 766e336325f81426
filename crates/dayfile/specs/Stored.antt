-- A day in a store.
-- Assumes nothing.
use Rattle.std.specs.Prelude.{◌≡◌, ℕ, List, Some}
use Rattle.store.specs.declared.day.DayName.{DayName}
use Rattle.store.specs.State.{State}
use Rattle.dayfile.specs.Entries.{Entry}
use Rattle.dayfile.specs.Form.{day_file}
use Rattle.dayfile.specs.Limits.{AreFiles}

-- bytes are the file of a day of this name, with these files
abbrev pub IsDayOf : DayName → List Entry → List ℕ → Type 0
IsDayOf d es bytes = AreFiles es × (bytes ≡ day_file d es)

-- under the name of a day lies the file of a day with these files
abbrev pub HasFiles : State → DayName → List Entry → Type 0
HasFiles s d es = AreFiles es × (s.days d ≡ Some (day_file d es))
