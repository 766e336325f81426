-- A day: its files, each with its path, how many bytes it has, and the names of its pieces.
-- Assumes nothing.
use Rattle.std.specs.Prelude.{List, map, vec_items}
pub use Rattle.dayfile.specs.Entries.{Entry, names_of}
pub use Rattle.dayfile.specs.Files.{entry_of}
use Rattle.dayfile.specs.declared.day.Day.{Day}

-- the files of a day, in their order
abbrev pub files_of : Day → List Entry
files_of d = map entry_of (vec_items d.files)
