-- What the files of a store are called, from its folder on.
-- Assumes nothing.
use Rattle.std.specs.Prelude.{ℕ, List, ◌++◌, Option, Some, None, codes, decimal}
use Rattle.digest.specs.declared.value.Digest.{Digest}
use Rattle.digest.specs.Hex.{hex}
use Rattle.store.specs.declared.day.DayName.{DayName}
use Rattle.store.specs.declared.piece.Spot.{Spot}
use Rattle.store.specs.declared.piece.Spot.TheVariants.{Place, Aside}

-- p/DIGITS, or a/DIGITS
abbrev pub piece_name : Spot → Digest → List ℕ
piece_name Place n = codes "p/" ++ hex n.bytes
piece_name Aside n = codes "a/" ++ hex n.bytes

-- i/M, m/M and d/M
abbrev pub list_name : ℕ → List ℕ
list_name m = codes "i/" ++ decimal m

abbrev pub highest_name : ℕ → List ℕ
highest_name m = codes "m/" ++ decimal m

abbrev pub days_name : ℕ → List ℕ
days_name m = codes "d/" ++ decimal m

-- d/M/N
abbrev pub day_name : DayName → List ℕ
day_name d = codes "d/" ++ (decimal d.machine ++ (codes "/" ++ decimal d.number))

-- t/M, or t/s
abbrev pub writing_name : Option ℕ → List ℕ
writing_name (Some m) = codes "t/" ++ decimal m
writing_name None = codes "t/s"

-- t/M.lock, or t/s.lock
abbrev pub lock_name : Option ℕ → List ℕ
lock_name (Some m) = codes "t/" ++ (decimal m ++ codes ".lock")
lock_name None = codes "t/s.lock"
