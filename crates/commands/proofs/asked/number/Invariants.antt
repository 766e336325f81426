use Rattle.std.proofs.Common.{◌≡◌, ◌≤◌, take, min}
use Rattle.commands.specs.Numbers.{Digits, too_large, value}
use Rattle.commands.proofs.asked.number.Given as goal

abbrev pub invariant-loop-c : goal.invariant-loop-c
invariant-loop-c l = (l.number ≤ too_large) × Digits l.word l.c-index × (l.number ≡ min too_large (value (take l.c-index l.word)))
