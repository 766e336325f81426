use Rattle.std.proofs.Common.{◌≡◌, ◌++◌, vec_items}
use Rattle.cutting.specs.Rule.{pieces}
use Rattle.cutting.specs.Results.{contents}
use Rattle.cutting.proofs.pieces.cut.Given as goal

abbrev pub invariant-loop-piece : goal.invariant-loop-piece
invariant-loop-piece l = pieces l.file ≡ contents (vec_items l.found) ++ pieces l.piece-iterator.rest.now
