use Rattle.sweeper.specs.Loops.{Times}
use Rattle.sweeper.specs.Looking.{AddsListOf}
use Rattle.sweeper.proofs.looking.add_lists.Given as goal

abbrev pub invariant-loop-machine : goal.invariant-loop-machine
invariant-loop-machine g l = Times (AddsListOf g.S.Store.does l.fn.used.keys) l.machine l.fn.store l.fn.unused.keys l.store l.unused.keys
