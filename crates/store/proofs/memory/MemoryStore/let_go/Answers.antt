use Rattle.std.proofs.Common.{arith, inl}
use Rattle.std.proofs.lemmas.Grind.{common_steps}
use Rattle.store.proofs.States.{has_let_go, knows_no_day}
use Rattle.store.proofs.memory.MemoryStore.let_go.Goals as goal

pub returns-in_default : goal.returns-in_default
returns-in_default c = inl (knows_no_day c.args.self.now c.remove.new.self c.args.day (grind (arith, common_steps)) c.in_default.ensures.unchanged)

pub returns : goal.returns
returns c = inl (has_let_go c.args.self.now c.remove.new.self c.args.day (grind (arith, common_steps)) c.remove.ensures.updates.0)
