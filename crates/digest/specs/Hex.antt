-- A digest as text: two lowercase hexadecimal digits a byte.
-- Assumes nothing.
use Rattle.std.specs.Prelude.{◌≡◌, ℕ, ◌+◌, ◌/◌, ◌%◌, ◌<◌, cond, List, [], ◌∷◌, length, IfOk, Ok, Result, nat_lt, slice_index}
use Rattle.digest.specs.declared.value.Digest.{Digest}
use Rattle.digest.specs.declared.hex.NotADigest.{NotADigest}

-- the digit, in ASCII, of a number below 16: 0 to 9, then a to f
abbrev pub digit : ℕ → ℕ
digit n = cond (nat_lt n 10) (48 + n) (87 + n)

-- the digits of some bytes, the higher half of each first
unfoldable pub hex : List ℕ → List ℕ
hex [] = []
hex (b ∷ bs) = digit (b / 16) ∷ (digit (b % 16) ∷ hex bs)

-- what every digest is in a running program: 32 bytes
abbrev pub Whole : Digest → Type 0
Whole d = (length d.bytes ≡ 32) × ((i : ℕ) → slice_index d.bytes i < 256)

-- what reading a text may answer
pub record Reads (text : List ℕ) (r : Result Digest NotADigest) : Type 0 where
  -- only the 64 digits of the digest are read as it
  pub only : IfOk r (λ d. (length text ≡ 64) × (text ≡ hex d.bytes))
  -- what is written reads back
  pub back : (d : Digest) → Whole d → text ≡ hex d.bytes → r ≡ Ok d
