use Rattle.std.proofs.Common.{inr}
use Rattle.days.specs.Machines.{work_of}
use Rattle.days.proofs.machine.Machine.name.Goals as goal

pub returns-in-Err-name-clause-step : goal.returns-in-Err-name-clause-step
returns-in-Err-name-clause-step g c = inr (work_of c.in-Ok.day, c.in-Ok.ensures.1, _, c.in-Ok.ensures.2, (c.with.ensures.makes, rw c.in-Ok.ensures.0 at c.in-Err-name.ensures))
