use Rattle.std.proofs.Common.{◌≡◌, arith, Err, inl, inr, sym}
use Rattle.std.proofs.lemmas.Grind.{common_steps}
use Rattle.cutting.specs.declared.refusal.Refusal.TheVariants.{TooManyNames}
use Rattle.store.specs.Memories.{state_of}
use Rattle.store.proofs.States.{after_listing, has_enlisted, has_no_room, is_enlisted, same_lists, wants_room}
use Rattle.store.proofs.memory.MemoryStore.enlist.Goals as goal

pub returns-then-contains : goal.returns-then-contains
returns-then-contains c = inl (is_enlisted _ _ _ (sym c.if-contains.ensures))

pub returns-in_err-check_room : goal.returns-in_err-check_room
returns-in_err-check_room c =
    let r : c.from_residual.result ≡ Err TooManyNames = grind (arith, common_steps) in
    inl (rw r (has_no_room _ _ _ (sym c.if-contains.ensures) c.in_err-check_room.ensures.0))

pub returns-in_err-insert : goal.returns-in_err-insert
returns-in_err-insert c = inr (wants_room _ (state_of c.args.self.now) (sym c.if-contains.ensures) (omega arith), grind (arith, common_steps), same_lists c.args.self.now c.insert.new.self c.in_err-insert.ensures.err)

pub returns : goal.returns
returns c = inl (has_enlisted _ _ _ (sym c.if-contains.ensures) (omega arith) _ (after_listing c.args.self.now c.insert.new.self c.args.listing c.in_ok-insert.ensures.updates.0 (grind (arith, common_steps))))
