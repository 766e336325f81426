use Rattle.sweeper.specs.Loops.{Times}
use Rattle.sweeper.specs.Looking.{AddsDays}
use Rattle.sweeper.proofs.looking.add_all_days.Given as goal

abbrev pub invariant-loop-machine : goal.invariant-loop-machine
invariant-loop-machine g l = Times (AddsDays g.S.Store.does) l.machine l.fn.store l.fn.used.keys l.store l.used.keys
