use Rattle.std.proofs.Common.{arith, refl, inl, inr, sym}
use Rattle.std.proofs.lemmas.Grind.{common_steps}
use Rattle.store.proofs.States.{has_day, has_named, same_days, wants_day}
use Rattle.store.proofs.memory.MemoryStore.name_day.Goals as goal

pub returns-then-contains_key : goal.returns-then-contains_key
returns-then-contains_key c = inl (has_day c.args.self.now c.args.day c.args.file.now (sym c.if-contains_key.ensures))

pub returns-in_err-from_slice : goal.returns-in_err-from_slice
returns-in_err-from_slice c = inr (wants_day c.args.self.now c.args.day c.args.file.now (sym c.if-contains_key.ensures), grind (arith, common_steps), refl)

pub returns-in_err-insert : goal.returns-in_err-insert
returns-in_err-insert c = inr (wants_day c.args.self.now c.args.day c.args.file.now (sym c.if-contains_key.ensures), grind (arith, common_steps), same_days c.args.self.now c.insert.new.self c.args.day c.in_err-insert.ensures.err)

pub returns : goal.returns
returns c = inl (has_named c.args.self.now c.insert.new.self c.args.day c.in_ok-from_slice.field-0 c.args.file.now c.in_ok-from_slice.ensures.items (sym c.if-contains_key.ensures) c.in_ok-insert.ensures.updates.0)
