-- A file of a day, apart from how it lies in memory.
-- Assumes nothing.
use Rattle.std.specs.Prelude.{vec_items}
use Rattle.dayfile.specs.Entries.{Entry}
use Rattle.dayfile.specs.declared.entry.FileEntry.{FileEntry}

-- a file as it lies in memory
abbrev pub entry_of : FileEntry → Entry
entry_of e = record { path = vec_items e.path.bytes; length = e.length; pieces = vec_items e.pieces }
