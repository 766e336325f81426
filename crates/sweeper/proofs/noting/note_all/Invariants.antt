use Rattle.sweeper.specs.Loops.{Times}
use Rattle.sweeper.specs.Looking.{NotesOne}
use Rattle.sweeper.proofs.noting.note_all.Given as goal

abbrev pub invariant-loop-machine : goal.invariant-loop-machine
invariant-loop-machine g l = Times (NotesOne g.S.Store.does) l.machine l.fn.store l.fn.noted.highest l.store l.noted.highest
