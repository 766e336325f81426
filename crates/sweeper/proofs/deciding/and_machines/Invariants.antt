use Rattle.sweeper.specs.Loops.{Times}
use Rattle.sweeper.specs.Looking.{AndMachine}
use Rattle.sweeper.proofs.deciding.and_machines.Given as goal

abbrev pub invariant-loop-machine : goal.invariant-loop-machine
invariant-loop-machine g l = Times (AndMachine g.S.Store.does l.fn.noted) l.machine l.fn.store l.fn.all l.store l.all
