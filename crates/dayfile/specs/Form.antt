-- The form of a day file. There is one string for each day.
-- Assumes nothing.
use Rattle.std.specs.Prelude.{ℕ, List, ◌∷◌, ◌++◌, length}
use Rattle.std.specs.Int.{w16, w32, to_be_bytes}
use Rattle.std.specs.List.{flat_map}
use Rattle.digest.specs.Digests.{digest_of}
use Rattle.store.specs.declared.day.DayName.{DayName}
use Rattle.dayfile.specs.Entries.{Entry}

-- a file: its path behind its length, how many bytes the file has, and how many pieces, whose names follow
abbrev pub entry_bytes : Entry → List ℕ
entry_bytes e = length e.path ∷ e.path ++ (to_be_bytes w32 e.length ++ (to_be_bytes w16 (length e.pieces) ++ flat_map (λ n. n.bytes) e.pieces))

-- first 68, then whose day it is and its number, how many files it has, and these
abbrev pub body : DayName → List Entry → List ℕ
body d es = 68 ∷ d.machine ∷ to_be_bytes w32 d.number ++ (to_be_bytes w16 (length es) ++ flat_map entry_bytes es)

-- and last the digest of all that
abbrev pub day_file : DayName → List Entry → List ℕ
day_file d es = body d es ++ (digest_of (body d es)).bytes
