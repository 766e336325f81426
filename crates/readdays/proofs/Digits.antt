-- The two digits of each byte, one byte after the other.
-- Assumes nothing.
use Rattle.std.proofs.Common.{◌≡◌, ℕ, ◌/◌, ◌%◌, ◌<◌, ◌^◌, ◌-◌, List, [], ◌∷◌, ◌++◌, false, refl, ap, ◌∙◌, take, length, get_or, ◌+◌}
use Rattle.std.specs.Fmt.{digits, format_spec, padded_integral}
use Rattle.std.proofs.lemmas.Fmt.{hex_byte}
use Rattle.std.proofs.lemmas.List.{take_more}
use Rattle.digest.specs.Hex.{digit, hex}

-- those of one more byte follow
pub hex-append : (bs : List ℕ) (b : ℕ) → hex (bs ++ b ∷ []) ≡ hex bs ++ hex (b ∷ [])
unfolding hex
hex-append [] b = refl
hex-append (c ∷ bs) b = ap (λ rest. digit (c / 16) ∷ (digit (c % 16) ∷ rest)) (hex-append bs b)

-- those of one byte, as they are written
pub byte_digits : (b : ℕ) → b < 256 → padded_integral (format_spec 32 0 4 2 (2 ^ 64 - 1)) false [] (digits 16 false b) ≡ hex (b ∷ [])
unfolding hex
byte_digits b fits = hex_byte false b fits

-- and those of the next byte of a list
pub hex-take_more : (bs : List ℕ) (i : ℕ) → i < length bs → hex (take (i + 1) bs) ≡ hex (take i bs) ++ hex (get_or bs i 0 ∷ [])
hex-take_more bs i within = ap hex (take_more bs i 0 within) ∙ hex-append (take i bs) (get_or bs i 0)
