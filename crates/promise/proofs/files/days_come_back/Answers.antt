use Rattle.days.proofs.Made.{steps, whole}
use Rattle.promise.proofs.Returns.{listed_files_come_back, made_days_come_back}
use Rattle.promise.proofs.files.days_come_back.Goals as goal

pub returns-clause-listed : goal.returns-clause-listed
returns-clause-listed g c holds exact = listed_files_come_back g.S.Store.does holds exact

pub returns-clause-made : goal.returns-clause-made
returns-clause-made g c holds exact = made_days_come_back g.S.Store.does g.F.Source.gives holds exact (whole g.S.Store.does g.F.Source.gives holds exact) (steps g.S.Store.does g.F.Source.gives holds exact)
