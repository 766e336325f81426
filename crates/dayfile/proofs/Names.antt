-- The names of all pieces of a day.
-- Assumes nothing.
use Rattle.std.proofs.Common.{◌≡◌, List, [], ◌∷◌, ◌++◌, map, ap, refl}
use Rattle.std.specs.List.{flat_map}
use Rattle.dayfile.specs.Entries.{names_of}
use Rattle.dayfile.specs.Files.{entry_of}
use Rattle.dayfile.specs.declared.entry.FileEntry.{FileEntry}

-- file by file, as they lie in memory
pub names_are : (fs : List FileEntry) → flat_map (λ f. f.pieces.items) fs ≡ names_of (map entry_of fs)
names_are [] = refl
names_are (f ∷ fs) = ap (λ ns. f.pieces.items ++ ns) (names_are fs)
