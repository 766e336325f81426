-- Numbers that are read digit by digit.
-- Assumes nothing.
use Rattle.std.proofs.Common.{◌≡◌, ℕ, ◌+◌, ◌-◌, ◌*◌, ◌<◌, List, length, get_or, take, min, arith}
use Rattle.std.proofs.lemmas.List.Sums.{fold_more}
use Rattle.commands.specs.Numbers.{value}

pub value_more : (w : List ℕ) (i : ℕ) → i < length w → value (take (i + 1) w) ≡ value (take i w) * 10 + (get_or w i 0 - 48)
value_more w i h = fold_more (λ n c. n * 10 + (c - 48)) 0 w i 0 h

pub min_more : (t a d n : ℕ) → n ≡ min t a → min t (n * 10 + d) ≡ min t (a * 10 + d)
min_more t a d n e = omega arith
