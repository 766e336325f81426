use Rattle.std.proofs.Common.{arith}
use Rattle.std.proofs.lemmas.Bool.Decides.{nat_tests}
use Rattle.std.proofs.lemmas.Grind.{common_steps}
use Rattle.store.proofs.memory.Memory.new.Goals as goal

pub loop-machine-preserved : goal.loop-machine-preserved
loop-machine-preserved c = λ q. grind (arith, common_steps, nat_tests, c.loop-machine.invariant q, c.in_ok-insert.ensures.updates.0 q)
