use Rattle.rehearsal.proofs.Returned.{gives_back}
use Rattle.rehearsal.proofs.world.World.back.Goals as goal

pub returns-clause-whole : goal.returns-clause-whole
returns-clause-whole c = gives_back c.args.machine c.args.number c.args.path.now c.args.self.now c.read_back.new.self c.read_back.result c.read_back.ensures
