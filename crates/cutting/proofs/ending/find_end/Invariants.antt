use Rattle.std.proofs.Common.{◌≡◌, take, fold}
use Rattle.cutting.specs.Rule.{next}
use Rattle.cutting.specs.Finds.{NoEndBefore}
use Rattle.cutting.proofs.ending.find_end.Given as goal

abbrev pub invariant-loop-added : goal.invariant-loop-added
invariant-loop-added l =
    (l.number ≡ fold next l.initial.number (take l.added l.bytes)) × NoEndBefore l.initial.number l.bytes l.added
