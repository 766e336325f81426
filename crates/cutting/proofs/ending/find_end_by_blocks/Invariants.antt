use Rattle.std.proofs.Common.{◌*◌}
use Rattle.cutting.proofs.Further.{Reached}
use Rattle.cutting.proofs.ending.find_end_by_blocks.Given as goal

abbrev pub invariant-loop-turn : goal.invariant-loop-turn
invariant-loop-turn l = Reached l.initial.number l.bytes (l.turn-counter * 4) l.number
