use Rattle.std.proofs.Common.{arith, refl, ap, take, Some, Ok, Err}
use Rattle.cutting.specs.declared.refusal.Refusal.TheVariants.{Unknown}
use Rattle.store.proofs.States.{has_damaged_day}
use Rattle.store.proofs.memory.Memory.cut_day.Goals as goal

pub returns-then-len-length : goal.returns-then-len-length
returns-then-len-length c =
    let file = c.in-Some.file.now in
    has_damaged_day c.args.self.now (c.get_mut.follows.lender file) c.args.day file file c.in-Some.ensures.value (c.get_mut.follows.holds file) c.args.length (take c.args.length) (Err Unknown) (refl, omega arith, refl)

pub returns : goal.returns
returns c =
    let file = c.in-Some.file.now in
    let new = c.truncate.new.self in
    has_damaged_day c.args.self.now (c.get_mut.follows.lender new) c.args.day file new c.in-Some.ensures.value (c.get_mut.follows.holds new) c.args.length (take c.args.length) (Ok tt) (file.items, refl, omega arith, ap Some c.truncate.ensures.items)
