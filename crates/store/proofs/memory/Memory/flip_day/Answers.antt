use Rattle.std.proofs.Common.{◌+◌, arith}
use Rattle.std.proofs.lemmas.Grind.{common_steps}
use Rattle.std.specs.Vec.{with_items}
use Rattle.store.specs.Damages.{flipped}
use Rattle.store.proofs.States.{has_damaged_day}
use Rattle.store.proofs.memory.Memory.flip_day.Goals as goal

pub returns : goal.returns
returns c =
    let file = c.in-Some.file.now in
    let new = with_items file c.flip_byte.new.bytes in
    has_damaged_day c.args.self.now (c.get_mut.follows.lender new) c.args.day file new c.in-Some.ensures.value (c.get_mut.follows.holds new) (c.args.at + 1) (flipped c.args.at) c.flip_byte.result (grind (arith, common_steps))
