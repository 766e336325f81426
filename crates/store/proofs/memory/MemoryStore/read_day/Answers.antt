use Rattle.std.proofs.Common.{arith, inl, inr, refl}
use Rattle.std.proofs.lemmas.Grind.{common_steps}
use Rattle.store.proofs.memory.MemoryStore.read_day.Goals as goal

pub returns-in_err-from_slice-in-Some : goal.returns-in_err-from_slice-in-Some
returns-in_err-from_slice-in-Some c = inr (grind (arith, common_steps), grind (arith, common_steps), refl)

pub returns-in_ok-from_slice-in-Some : goal.returns-in_ok-from_slice-in-Some
returns-in_ok-from_slice-in-Some c = inl (grind (arith, common_steps))

pub returns-in-None : goal.returns-in-None
returns-in-None c = inl (grind (arith, common_steps))
