use Rattle.std.proofs.Common.{arith, inl}
use Rattle.std.proofs.lemmas.Grind.{common_steps}
use Rattle.store.proofs.memory.MemoryStore.has_machine.Goals as goal

pub returns : goal.returns
returns c = inl (grind (arith, common_steps))
