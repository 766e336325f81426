use Rattle.std.proofs.Common.{length}
use Rattle.rehearsal.proofs.stream.play_part.Given as goal

abbrev pub decreases-loop-answered : goal.decreases-loop-answered
decreases-loop-answered g l = length l.rest
