use Rattle.std.proofs.Common.{arith, refl, inl, inr}
use Rattle.std.proofs.lemmas.Grind.{common_steps}
use Rattle.store.proofs.States.{has_raised, same_highest}
use Rattle.store.proofs.memory.MemoryStore.raise.Goals as goal

pub returns-in_err-insert : goal.returns-in_err-insert
returns-in_err-insert c = inr (refl, grind (arith, common_steps), same_highest c.args.self.now c.insert.new.self c.in_err-insert.ensures.err)

pub returns : goal.returns
returns c = inl (has_raised c.args.self.now c.insert.new.self c.args.machine c.args.number c.in_ok-insert.ensures.updates.0)
