use Rattle.std.proofs.Common.{◌≡◌, [], length}
use Rattle.cutting.specs.Results.{contents}
use Rattle.days.specs.Steps.{ListsAbsent}
use Rattle.days.proofs.seeing.list_absent.Given as goal
use Rattle.store.specs.Loops.{Times, at}

abbrev pub invariant-loop-i : goal.invariant-loop-i
invariant-loop-i g l = Times (at [] (ListsAbsent g.S.Store.does l.machine) (contents l.pieces)) l.i l.fn.store tt l.store tt × (length l.buffer ≡ length l.fn.buffer)
