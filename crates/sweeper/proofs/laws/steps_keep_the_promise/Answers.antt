use Rattle.sweeper.proofs.Kept.{kept}
use Rattle.sweeper.proofs.laws.steps_keep_the_promise.Goals as goal

pub returns : goal.returns
returns g c = kept g.S.Store.does
