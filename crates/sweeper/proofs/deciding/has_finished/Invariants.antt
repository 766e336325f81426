use Rattle.std.proofs.Common.{false}
use Rattle.sweeper.specs.Loops.{Times}
use Rattle.sweeper.specs.Looking.{OrDay}
use Rattle.sweeper.proofs.deciding.has_finished.Given as goal

abbrev pub invariant-loop-past : goal.invariant-loop-past
invariant-loop-past g l = Times (OrDay g.S.Store.does l.fn.machine l.fn.noted) l.past l.initial.store false l.store l.found
