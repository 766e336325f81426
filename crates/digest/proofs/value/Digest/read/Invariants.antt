use Rattle.std.proofs.Common.{◌≡◌, ℕ, ◌<◌, [], ◌∷◌, length, get_or}
use Rattle.digest.specs.Hex.{hex}
use Rattle.digest.proofs.value.Digest.read.Given as goal

-- the bytes before this one are those whose digits their pairs are
abbrev pub invariant-loop-i : goal.invariant-loop-i
invariant-loop-i l = record {
  long : length l.bytes ≡ 32;
  read : (j : ℕ) → j < l.i → (get_or l.bytes j 0 < 256) × (get_or l.pairs j [] ≡ hex (get_or l.bytes j 0 ∷ []));
}
