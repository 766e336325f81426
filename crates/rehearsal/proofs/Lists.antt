-- Lists of pieces.
-- Assumes nothing.
use Rattle.std.proofs.Common.{◌≡◌, ℕ, ◌<◌, List, [], ◌∷◌, length, arith, Bor}
use Rattle.cutting.specs.Rule.{cut_from, ended, pieces}
use Rattle.cutting.specs.Results.{contents}

-- a file that has a piece has bytes
pub some_bytes : (file : List ℕ) (ps : List (Bor (List ℕ))) (i : ℕ) → i < length ps → contents ps ≡ pieces file → 0 < length file
unfolding cut_from ended
some_bytes file [] i h e = elim h [ ]
some_bytes [] (p ∷ ps) i h e =
    let clash : ◌≡◌ {A = ℕ} 0 1 = cc in
    absurd (omega arith)
some_bytes (b ∷ bs) (p ∷ ps) i h e = omega arith
