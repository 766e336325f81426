use Rattle.std.proofs.Common.{arith}
use Rattle.std.proofs.lemmas.Grind.{common_steps}
use Rattle.readdays.proofs.Frames.{frame_first}
use Rattle.readdays.proofs.frame.Front.new.Goals as goal

pub returns-in-Some-split_at_checked-clause-all : goal.returns-in-Some-split_at_checked-clause-all
returns-in-Some-split_at_checked-clause-all c =
    let found = c.in-Some-split_at_checked in
    frame_first c.args.bytes.now found.frame.now found.after.now (λ i. omega (arith, c.type_inv.bytes i)) (grind (arith, common_steps)) (grind (arith, common_steps)) (grind (arith, common_steps))
