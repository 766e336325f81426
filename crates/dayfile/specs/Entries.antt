-- What a file of a day is.
-- Assumes nothing.
use Rattle.std.specs.Prelude.{ℕ, List}
use Rattle.std.specs.List.{flat_map}
use Rattle.digest.specs.declared.value.Digest.{Digest}

-- its path, how many bytes it has, and the names of its pieces
pub record Entry : Type 0 where
  pub path : List ℕ
  pub length : ℕ
  pub pieces : List Digest

-- the names of all pieces of these files, in their order
abbrev pub names_of : List Entry → List Digest
names_of es = flat_map (λ e. e.pieces) es
