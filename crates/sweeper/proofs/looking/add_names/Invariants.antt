use Rattle.sweeper.specs.Loops.{Times, with}
use Rattle.sweeper.specs.Looking.{AddsName}
use Rattle.sweeper.proofs.looking.add_names.Given as goal

abbrev pub invariant-loop-name : goal.invariant-loop-name
invariant-loop-name g l = Times (with (AddsName g.S.Store.does l.fn.used.keys) l.fn.names) l.name-index l.fn.store l.fn.unused.keys l.store l.unused.keys
