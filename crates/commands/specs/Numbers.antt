-- Numbers among the words.
-- Assumes nothing.
use Rattle.std.specs.Prelude.{◌≡◌, ◌≢◌, ℕ, ◌+◌, ◌-◌, ◌*◌, ◌<◌, Bool, true, ◌&&◌, List, length, min, fold, nat_le, slice_index, Some, None, Option}

-- a decimal digit
abbrev pub digit : ℕ → Bool
digit c = nat_le 48 c && nat_le c 57

-- the first n bytes of a word are digits
abbrev pub Digits : List ℕ → ℕ → Type 0
Digits w n = (k : ℕ) → k < n → digit (slice_index w k) ≡ true

-- a word that is a number: digits, without leading zeros
abbrev pub IsNumber : List ℕ → Type 0
IsNumber w = (0 < length w) × (1 < length w → slice_index w 0 ≢ 48) × Digits w (length w)

-- the number that digits spell
abbrev pub value : List ℕ → ℕ
value w = fold (λ n c. n * 10 + (c - 48)) 0 w

-- no machine and no day has this number, which stands for all from here on
abbrev pub too_large : ℕ
too_large = 4294967296

-- the number that a word is, if it is one
abbrev pub NumberRead : List ℕ → Option ℕ → Type 0
NumberRead w None = IsNumber w → ⊥
NumberRead w (Some n) = IsNumber w × (n ≡ min too_large (value w))
