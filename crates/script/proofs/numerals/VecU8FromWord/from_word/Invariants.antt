use Rattle.std.proofs.Common.{◌≡◌, ◌*◌, take, vec_items}
use Rattle.script.specs.Numbers.{HexDigits, paired}
use Rattle.script.proofs.numerals.VecU8FromWord.from_word.Given as goal

abbrev pub invariant-loop-i : goal.invariant-loop-i
invariant-loop-i l = HexDigits l.word (2 * l.i) × (vec_items l.bytes ≡ paired (take (2 * l.i) l.word))
