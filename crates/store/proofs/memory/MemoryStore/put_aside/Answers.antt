use Rattle.std.proofs.Common.{Some, refl, inl}
use Rattle.store.specs.declared.memory.Copies.{Copies}
use Rattle.store.proofs.States.{Change-lent, Change-none, had_none_to_put_aside, has_put_aside}
use Rattle.store.proofs.memory.MemoryStore.put_aside.Goals as goal

pub returns-in_default : goal.returns-in_default
returns-in_default c =
    let change = Change-none c.args.self.now c.get_mut.follows.lender-at-none c.args.name c.in_default.ensures.value c.get_mut.follows.holds-at-none in
    inl (had_none_to_put_aside change refl refl refl)

pub returns-in_default-take : goal.returns-in_default-take
returns-in_default-take c =
    let old = c.in-Some.copies.now in
    let new : Copies = record { place = c.take.new.self; aside = old.aside } in
    let change = Change-lent c.args.self.now (c.get_mut.follows.lender new) c.args.name old new c.in-Some.ensures.value (c.get_mut.follows.holds new) in
    inl (had_none_to_put_aside change (cc) (cc) refl)

pub returns : goal.returns
returns c =
    let old = c.in-Some.copies.now in
    let b = c.in-Some-take.bytes in
    let new : Copies = record { place = c.take.new.self; aside = Some b } in
    let change = Change-lent c.args.self.now (c.get_mut.follows.lender new) c.args.name old new c.in-Some.ensures.value (c.get_mut.follows.holds new) in
    inl (has_put_aside change b.items (cc) (cc) refl)
