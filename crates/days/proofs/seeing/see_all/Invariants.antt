use Rattle.std.proofs.Common.{◌≡◌, ◌≤◌, [], length}
use Rattle.cutting.specs.Results.{contents}
use Rattle.days.specs.Steps.{SeesPiece}
use Rattle.days.proofs.seeing.see_all.Given as goal
use Rattle.store.specs.Loops.{Times, at}

abbrev pub invariant-loop-k : goal.invariant-loop-k
invariant-loop-k g l = Times (at [] (SeesPiece g.S.Store.does l.machine) (contents l.pieces)) l.k l.fn.store l.fn.written l.store l.written × (l.written ≤ l.k) × (length l.buffer ≡ length l.fn.buffer)
