-- The order of digests.
-- Assumes nothing.
use Rattle.std.specs.Prelude.{◌≡◌, ℕ, cond, List, [], ◌∷◌, ◌==◌, Decides, nat_eq, nat_lt}
use Rattle.std.specs.declared.cmp.Ordering.TheVariants.{Less, Equal, Greater}
use Rattle.std.specs.declared.cmp.Ordering.{Ordering}
use Rattle.std.specs.Cmp.{IsTotalOrder}
use Rattle.std.specs.Cmp.Lexicographic.{pointwise, slice_cmp}
use Rattle.std.specs.Ordering.{nat_cmp}
use Rattle.digest.specs.declared.value.Digest.{Digest}

-- of two strings of bytes: the first byte in which they differ decides, and else the shorter one comes first
unfoldable pub order : List ℕ → List ℕ → Ordering
order [] [] = Equal
order [] (y ∷ ys) = Less
order (x ∷ xs) [] = Greater
order (x ∷ xs) (y ∷ ys) = cond (x == y) (order xs ys) (cond (nat_lt x y) Less Greater)

-- the order that `cmp` answers with is total, in the form that the contracts of sorts and maps ask for
abbrev pub TotalOrder : Type 0
TotalOrder = IsTotalOrder (λ (x y : Digest). order x.bytes y.bytes)

-- the library's order of lists of numbers, in whose words generic code speaks of digests, is this order
abbrev pub LibraryOrder : Type 0
LibraryOrder = (x y : Digest) → slice_cmp nat_cmp x.bytes y.bytes ≡ order x.bytes y.bytes

-- the library's test of two lists of numbers, in whose words generic code speaks of equality, tells whether two digests are equal
abbrev pub LibraryEquality : Type 0
LibraryEquality = (x y : Digest) → Decides (pointwise nat_eq x.bytes y.bytes) (x ≡ y)
