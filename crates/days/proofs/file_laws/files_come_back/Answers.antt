use Rattle.days.proofs.HadBack.{files_come_back}
use Rattle.days.proofs.file_laws.files_come_back.Goals as goal

pub returns : goal.returns
returns g c = files_come_back g.S.Store.does
