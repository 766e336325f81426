-- What is found in the next bytes of a piece, before which the number is n.
-- Assumes nothing.
use Rattle.std.specs.Prelude.{◌≡◌, ℕ, ◌/◌, ◌^◌, ◌<◌, Bool, true, false, List, length, take, fold, ◌==◌}
use Rattle.std.specs.declared.ops.ControlFlow.{ControlFlow}
use Rattle.std.specs.declared.ops.ControlFlow.TheVariants.{Continue, Break}
use Rattle.cutting.specs.Rule.{next}

-- does a piece of 2,048 bytes or more, and fewer than 65,536, end where the number is n?
abbrev pub is_end : ℕ → Bool
is_end n = n / 2 ^ 19 == 0

-- the piece does not end with fewer than k of the bytes
abbrev pub NoEndBefore : ℕ → List ℕ → ℕ → Type 0
NoEndBefore n bytes k = (j : ℕ) → j < k → is_end (fold next n (take j bytes)) ≡ false

-- it ends with k of them, fewer than all, and not before; or it does not end with fewer than all, and the number after all is given
abbrev pub Finds : ℕ → List ℕ → ControlFlow ℕ ℕ → Type 0
Finds n bytes (Break k) = (k < length bytes) × NoEndBefore n bytes k × (is_end (fold next n (take k bytes)) ≡ true)
Finds n bytes (Continue after) = NoEndBefore n bytes (length bytes) × (after ≡ fold next n bytes)
