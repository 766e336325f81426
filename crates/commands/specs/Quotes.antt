-- Bytes as messages show them.
-- Assumes nothing.
use Rattle.std.specs.Prelude.{ℕ, ◌/◌, ◌%◌, Bool, cond, ◌&&◌, List, [], ◌∷◌, ◌++◌, codes, nat_le, nat_lt}
use Rattle.digest.specs.Hex.{digit}

-- printable ASCII
abbrev pub plain : ℕ → Bool
plain b = nat_le 32 b && nat_lt b 127

-- \x and a byte's two hexadecimal digits
abbrev pub escaped : ℕ → List ℕ
escaped b = codes "\\x" ++ (digit (b / 16) ∷ (digit (b % 16) ∷ []))

-- a byte as it is shown
abbrev pub shown_byte : ℕ → List ℕ
shown_byte b = cond (plain b) (b ∷ []) (escaped b)

-- bytes as they are shown, one after the other
unfoldable pub shown_bytes : List ℕ → List ℕ
shown_bytes [] = []
shown_bytes (b ∷ bs) = shown_byte b ++ shown_bytes bs
