-- The seeded generator of docs/GENERATOR.md.
-- Assumes nothing.
use Rattle.std.specs.Prelude.{ℕ, zero, suc, ◌+◌, ◌*◌, ◌/◌, ◌%◌, ◌^◌, List, [], ◌∷◌}

-- the generator's number, from one byte to the next
unfoldable pub advance : ℕ → ℕ
advance x = (x * 6364136223846793005 + 1442695040888963407) % 2 ^ 64

-- n bytes from a number on, each the highest 8 bits of the number after the one before
unfoldable pub generated : ℕ → ℕ → List ℕ
generated x zero = []
generated x (suc n) = (advance x / 2 ^ 56) ∷ generated (advance x) n
