-- Bytes as messages show them.
-- Assumes nothing.
use Rattle.std.proofs.Common.{◌≡◌, ℕ, ◌+◌, ◌-◌, ◌^◌, ◌<◌, false, List, [], ◌∷◌, ◌++◌, length, get_or, take, sym, ap, ◌∙◌, append_assoc, append-nil}
use Rattle.std.proofs.lemmas.List.{take_more}
use Rattle.std.specs.Fmt.{padded_integral, format_spec, digits}
use Rattle.std.proofs.lemmas.Fmt.{hex_byte}
use Rattle.std.proofs.lemmas.Bool.{cond-false}
use Rattle.commands.specs.Quotes.{plain, escaped, shown_byte, shown_bytes}

shown-push : (bs : List ℕ) (b : ℕ) → shown_bytes (bs ++ (b ∷ [])) ≡ shown_bytes bs ++ shown_byte b
unfolding shown_bytes
shown-push [] b = append-nil (shown_byte b)
shown-push (x ∷ bs) b = ap (λ (l : List ℕ). shown_byte x ++ l) (shown-push bs b) ∙ sym (append_assoc (shown_byte x) (shown_bytes bs) (shown_byte b))

-- one byte more
pub shown_more : (bs : List ℕ) (i : ℕ) → i < length bs → shown_bytes (take (i + 1) bs) ≡ shown_bytes (take i bs) ++ shown_byte (get_or bs i 0)
shown_more bs i h = ap shown_bytes (take_more bs i 0 h) ∙ shown-push (take i bs) (get_or bs i 0)

-- a byte that is not shown as itself
pub shown_escaped : (b : ℕ) → b < 256 → plain b ≡ false → 92 ∷ (120 ∷ padded_integral (format_spec 32 0 4 2 (2 ^ 64 - 1)) false [] (digits 16 false b)) ≡ shown_byte b
shown_escaped b small h = ap (λ (l : List ℕ). 92 ∷ (120 ∷ l)) (hex_byte false b small) ∙ sym (cond-false _ (b ∷ []) (escaped b) h)
