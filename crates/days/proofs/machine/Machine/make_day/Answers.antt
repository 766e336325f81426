use Rattle.std.proofs.Common.{inr, subst}
use Rattle.days.specs.Machines.{makes}
use Rattle.days.specs.Wholes.{Finishes}
use Rattle.days.proofs.machine.Machine.make_day.Goals as goal

pub returns-clause-day : goal.returns-clause-day
returns-clause-day g c =
    inr (
      c.in_default.field-0,
      makes c.begin-machine.result.0,
      c.begin-machine.new.store,
      rw c.in_default.is at c.begin-machine.ensures.step,
      c.new.ensures.makes,
      subst
          (λ n. Finishes g.S.Store.does g.F.Source.gives n (makes c.begin-machine.result.0) c.begin-machine.new.store c.args.files.now c.finish-answer.result c.finish-answer.new.store c.finish-answer.new.files)
          c.begin-machine.ensures.number
          c.finish-answer.ensures,
    )
