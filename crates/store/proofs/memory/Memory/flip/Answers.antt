use Rattle.std.proofs.Common.{refl}
use Rattle.store.specs.declared.memory.Copies.{Copies}
use Rattle.store.proofs.States.{Change-lent, has_damaged_aside, has_damaged_place}
use Rattle.store.proofs.memory.Memory.flip.Goals as goal

pub returns-in-Place : goal.returns-in-Place
returns-in-Place c =
    let old = c.in-Some.copies.now in
    let new : Copies = record { place = c.flip_lying.new.there; aside = old.aside } in
    let change = Change-lent c.args.self.now (c.get_mut.follows.lender new) c.args.name old new c.in-Some.ensures.value (c.get_mut.follows.holds new) in
    rw c.in-Place.is (has_damaged_place change refl _ _ _ c.flip_lying.ensures)

pub returns-in-Aside : goal.returns-in-Aside
returns-in-Aside c =
    let old = c.in-Some.copies.now in
    let new : Copies = record { place = old.place; aside = c.flip_lying-in-Aside.new.there } in
    let change = Change-lent c.args.self.now (c.get_mut.follows.lender new) c.args.name old new c.in-Some.ensures.value (c.get_mut.follows.holds new) in
    rw c.in-Aside.is (has_damaged_aside change refl _ _ _ c.flip_lying-in-Aside.ensures)
