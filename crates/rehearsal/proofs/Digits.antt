-- The digits of bytes, one byte after the other.
-- Assumes nothing.
use Rattle.std.proofs.Common.{◌≡◌, ℕ, ◌+◌, ◌/◌, ◌%◌, ◌<◌, List, [], ◌∷◌, ◌++◌, length, get_or, take, refl, ap, ◌∙◌, arith}
use Rattle.std.proofs.lemmas.List.{take_more}
use Rattle.std.proofs.Math.Utf8.{encode}
use Rattle.std.proofs.lemmas.Str.{encode_ascii}
use Rattle.digest.specs.Hex.{digit, hex}

hex_append : (xs ys : List ℕ) → hex (xs ++ ys) ≡ hex xs ++ hex ys
unfolding hex
hex_append [] ys = refl
hex_append (x ∷ xs) ys = ap (λ (l : List ℕ). digit (x / 16) ∷ (digit (x % 16) ∷ l)) (hex_append xs ys)

-- one byte more
pub hex_more : (bs : List ℕ) (i : ℕ) → i < length bs → hex (take (i + 1) bs) ≡ hex (take i bs) ++ hex (get_or bs i 0 ∷ [])
hex_more bs i h = ap hex (take_more bs i 0 h) ∙ hex_append (take i bs) (get_or bs i 0 ∷ [])

-- the two digits of a byte, as characters
pub two_digits : (b high low : ℕ) → b < 256 → high ≡ digit (b / 16 % 16) → high < 128 → low ≡ digit (b % 16) → low < 128 → encode high ++ encode low ≡ hex (b ∷ [])
unfolding hex
two_digits b high low fits h small l less =
    let same : b / 16 % 16 ≡ b / 16 = omega arith in
    rw (encode_ascii high small, encode_ascii low less, h, l, same) refl
