use Rattle.std.proofs.Common.{◌≡◌, ℕ, ◌<◌, [], ◌∷◌, length, get_or, IsAscii}
use Rattle.digest.specs.Hex.{hex}
use Rattle.digest.proofs.value.Digest.digits.Given as goal

-- the pairs before this one are the digits of their bytes
abbrev pub invariant-loop-i : goal.invariant-loop-i
invariant-loop-i l = record {
  long : length l.pairs ≡ 32;
  written : (j : ℕ) → j < l.i → get_or l.pairs j [] ≡ hex (get_or l.self.bytes j 0 ∷ []);
  ascii : (j : ℕ) → j < l.i → IsAscii (get_or l.pairs j []);
}
