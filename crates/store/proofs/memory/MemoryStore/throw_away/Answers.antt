use Rattle.std.proofs.Common.{None, refl, inl, arith}
use Rattle.std.proofs.lemmas.Grind.{common_steps}
use Rattle.store.specs.declared.memory.Copies.{Copies}
use Rattle.store.proofs.States.{Change-again, Change-lent, Change-none, has_thrown_away}
use Rattle.store.proofs.memory.MemoryStore.throw_away.Goals as goal

pub returns-in_default : goal.returns-in_default
returns-in_default c =
    let change = Change-none c.args.self.now c.get_mut.follows.lender-at-none c.args.name c.in_default.ensures.value c.get_mut.follows.holds-at-none in
    inl (has_thrown_away change _ refl refl refl)

pub returns-then-is_none : goal.returns-then-is_none
returns-then-is_none c =
    let old = c.in-Some.copies.now in
    let new : Copies = record { place = old.place; aside = c.take.new.self } in
    let change = Change-lent c.args.self.now (c.get_mut.follows.lender new) c.args.name old new c.in-Some.ensures.value (c.get_mut.follows.holds new) in
    inl (has_thrown_away (Change-again c.args.self.now _ c.remove.new.self c.args.name _ _ None change c.remove.ensures.updates.0) c.is_some-thrown.result (grind (arith, common_steps)) (grind (arith, common_steps)) refl)

pub returns-else-is_none : goal.returns-else-is_none
returns-else-is_none c =
    let old = c.in-Some.copies.now in
    let new : Copies = record { place = old.place; aside = c.take.new.self } in
    let change = Change-lent c.args.self.now (c.get_mut.follows.lender new) c.args.name old new c.in-Some.ensures.value (c.get_mut.follows.holds new) in
    inl (has_thrown_away change c.is_some-thrown.result (grind (arith, common_steps)) refl (cc))
