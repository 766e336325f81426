use Rattle.sweeper.specs.Loops.{Times}
use Rattle.sweeper.specs.Looking.{AddsDayOf}
use Rattle.sweeper.proofs.looking.add_days.Given as goal

abbrev pub invariant-loop-number : goal.invariant-loop-number
invariant-loop-number g l = Times (AddsDayOf g.S.Store.does l.fn.machine) l.number l.initial.store l.fn.used.keys l.store l.used.keys
