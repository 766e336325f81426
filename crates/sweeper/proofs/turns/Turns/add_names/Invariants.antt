use Rattle.sweeper.specs.Loops.{Times, with}
use Rattle.sweeper.specs.Looking.{Divides}
use Rattle.sweeper.specs.Sweepers.{turns_of}
use Rattle.sweeper.proofs.turns.Turns.add_names.Given as goal

abbrev pub invariant-loop-name : goal.invariant-loop-name
invariant-loop-name g l = Times (with (Divides g.S.Store.does l.fn.used.keys) l.fn.names) l.name-index l.fn.store (turns_of l.fn.self) l.store (turns_of l.self)
