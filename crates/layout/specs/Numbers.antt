-- The file of the highest day number that a machine ever raised.
-- Assumes nothing.
use Rattle.std.specs.Prelude.{ℕ, List}
use Rattle.std.specs.Int.{w32, to_be_bytes}
use Rattle.layout.specs.Signed.{signed}

-- the four bytes of the number, the high one first, and their digest
abbrev pub number_bytes : ℕ → List ℕ
number_bytes n = signed (to_be_bytes w32 n)
