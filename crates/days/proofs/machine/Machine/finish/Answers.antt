use Rattle.std.proofs.Common.{inl, inr, refl}
use Rattle.std.proofs.lemmas.Result.{err_from_is_err_and}
use Rattle.days.specs.Machines.{makes}
use Rattle.days.proofs.machine.Machine.finish.Goals as goal

pub returns-in_err-raised : goal.returns-in_err-raised
returns-in_err-raised g c =
    let passed = err_from_is_err_and c.from_residual-in_err-raised.result c.from_residual-in_err-raised.ensures.1 in
    let all = c.in_ok-machine.ensures in
    rw (passed.1, passed.2) (inr (makes c.in_ok-machine.machine, c.add_all.new.store, all.1, inl (_, makes c.raise-machine.result.0, refl, rw (all.0, c.in_err-raised.was) at c.raise-machine.ensures.step)))

pub returns : goal.returns
returns g c =
    let all = c.in_ok-machine.ensures in
    inr (
      makes c.in_ok-machine.machine,
      c.add_all.new.store,
      all.1,
      inr (
        c.in_ok-raised.field-0,
        makes c.raise-machine.result.0,
        c.raise-machine.new.store,
        makes c.name-named.result.0,
        rw (all.0, c.in_ok-raised.was) at c.raise-machine.ensures.step,
        rw (c.raise-machine.ensures.number, all.0) at c.name-named.ensures.step,
      ),
    )
