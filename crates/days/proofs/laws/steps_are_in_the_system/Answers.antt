use Rattle.days.proofs.Within.{are_steps}
use Rattle.days.proofs.laws.steps_are_in_the_system.Goals as goal

pub returns : goal.returns
returns g c = are_steps g.S.Store.does
