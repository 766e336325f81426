use Rattle.sweeper.proofs.Within.{are_steps}
use Rattle.sweeper.proofs.laws.steps_are_in_the_system.Goals as goal

pub returns : goal.returns
returns g c = are_steps g.S.Store.does
