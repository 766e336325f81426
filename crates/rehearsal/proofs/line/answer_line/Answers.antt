use Rattle.std.proofs.Common.{rules}
use Rattle.rehearsal.proofs.InSystem.{runs_or_damages}
use Rattle.rehearsal.proofs.Refused.{leaves_all}
use Rattle.rehearsal.proofs.line.answer_line.Goals as goal

pub returns-clause-unchanged : goal.returns-clause-unchanged
returns-clause-unchanged c = leaves_all c.args.number c.args.line.now c.args.world.now _ c.map_err.result (search rules)

pub returns-clause-steps : goal.returns-clause-steps
returns-clause-steps c = runs_or_damages c.args.number c.args.line.now c.args.world.now c.play_line.new.world c.map_err.result (search rules)
