-- Bytes in hexadecimal, and numbers in decimal.
-- Assumes nothing.
use Rattle.std.specs.Prelude.{◌≡◌, ℕ, ◌+◌, ◌-◌, ◌*◌, ◌<◌, Bool, true, cond, ◌&&◌, List, [], ◌∷◌, is_some, Some, None, fold, Option, nat_le, slice_index}
use Rattle.std.specs.Option.{unwrap_or}

-- c is from low to high
abbrev pub between : ℕ → ℕ → ℕ → Bool
between low high c = nat_le low c && nat_le c high

-- the number that a hexadecimal digit stands for: 0 to 9, a to f, A to F
abbrev pub hex_value : ℕ → Option ℕ
hex_value c = cond (between 48 57 c) (Some (c - 48)) (cond (between 97 102 c) (Some (c - 87)) (cond (between 65 70 c) (Some (c - 55)) None))

-- the first n bytes of a word are hexadecimal digits
abbrev pub HexDigits : List ℕ → ℕ → Type 0
HexDigits w n = (k : ℕ) → k < n → is_some (hex_value (slice_index w k)) ≡ true

-- the bytes that digits spell, two digits each
unfoldable pub paired : List ℕ → List ℕ
paired [] = []
paired (c ∷ []) = []
paired (c ∷ (d ∷ cs)) = (unwrap_or (hex_value c) 0 * 16 + unwrap_or (hex_value d) 0) ∷ paired cs

-- the first n bytes of a word are decimal digits
abbrev pub DecimalDigits : List ℕ → ℕ → Type 0
DecimalDigits w n = (k : ℕ) → k < n → between 48 57 (slice_index w k) ≡ true

-- the number that decimal digits spell
abbrev pub decimal_value : List ℕ → ℕ
decimal_value w = fold (λ n c. n * 10 + (c - 48)) 0 w

-- no seed and no count is larger
abbrev pub most_number : ℕ
most_number = 1073741824

-- nor is any other number
abbrev pub most_in_store : ℕ
most_in_store = 4294967295
