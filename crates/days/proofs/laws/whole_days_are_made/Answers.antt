use Rattle.days.proofs.Made.{steps, whole}
use Rattle.days.proofs.laws.whole_days_are_made.Goals as goal

pub returns-clause-made : goal.returns-clause-made
returns-clause-made g c = whole g.S.Store.does g.F.Source.gives

pub returns-clause-steps : goal.returns-clause-steps
returns-clause-steps g c = steps g.S.Store.does g.F.Source.gives
