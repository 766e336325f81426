use Rattle.std.proofs.Common.{inr, refl, sym, ◌∙◌}
use Rattle.days.specs.Machines.{work_of}
use Rattle.days.proofs.Cases.{makes_day}
use Rattle.days.proofs.machine.Machine.begin.Goals as goal

pub returns-in-Day-clause-step : goal.returns-in-Day-clause-step
returns-in-Day-clause-step g c =
    let day = makes_day _ _ c.in-Day.is in
    (c.with.ensures.makes ∙ sym day, inr (work_of c.in-Day.day, day, refl, c.in_default.ensures))
