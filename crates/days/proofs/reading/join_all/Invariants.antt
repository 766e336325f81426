use Rattle.std.proofs.Common.{◌≡◌, ◌≤◌, [], length, take}
use Rattle.store.specs.Loops.{Times, at}
use Rattle.days.specs.Backs.{JoinsPiece}
use Rattle.days.proofs.reading.join_all.Given as goal

abbrev pub invariant-loop-name : goal.invariant-loop-name
invariant-loop-name g l =
    record {
      done : Times (at (record { bytes = [] }) (JoinsPiece g.S.Store.does (length l.fn.file)) l.names) l.name-index l.fn.store (take l.fn.at l.fn.file) l.store (take l.at l.file);
      same : length l.file ≡ length l.fn.file;
      inside : l.at ≤ length l.file;
    }
