use Rattle.std.proofs.Common.{◌≡◌, ◌≤◌, take}
use Rattle.script.specs.Numbers.{DecimalDigits, decimal_value}
use Rattle.script.proofs.numerals.number_value.Given as goal

abbrev pub invariant-loop-c : goal.invariant-loop-c
invariant-loop-c l = (l.number ≤ l.most) × DecimalDigits l.word l.c-index × (l.number ≡ decimal_value (take l.c-index l.word))
