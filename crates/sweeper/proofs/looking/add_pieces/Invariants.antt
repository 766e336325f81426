use Rattle.sweeper.specs.Loops.{Times, with}
use Rattle.sweeper.specs.Looking.{AddsPiece}
use Rattle.sweeper.proofs.looking.add_pieces.Given as goal

abbrev pub invariant-loop-name : goal.invariant-loop-name
invariant-loop-name g l = Times (with (AddsPiece g.S.Store.does) l.fn.pieces) l.name-index l.fn.store l.fn.used.keys l.store l.used.keys
