use Rattle.days.proofs.HadBack.{backs_are_listed}
use Rattle.days.proofs.file_laws.back_gives_what_is_listed.Goals as goal

pub returns : goal.returns
returns g c = backs_are_listed g.S.Store.does
