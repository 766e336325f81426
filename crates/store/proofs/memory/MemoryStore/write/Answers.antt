use Rattle.std.proofs.Common.{Some, refl, inl, inr, sym, ap, ◌∙◌, arith}
use Rattle.std.proofs.lemmas.Grind.{common_steps}
use Rattle.store.specs.declared.memory.Copies.{Copies}
use Rattle.store.proofs.States.{Change-again, Change-lent, Change-none, has_written, same_pieces}
use Rattle.store.proofs.memory.MemoryStore.write.Goals as goal

pub returns-in-Some : goal.returns-in-Some
returns-in-Some c =
    let old = c.in-Some.copies.now in
    let new : Copies = record { place = Some c.in_ok-bytes.bytes; aside = old.aside } in
    let change = Change-lent c.args.self.now (c.get_mut.follows.lender new) c.args.name old new c.in-Some.ensures.value (c.get_mut.follows.holds new) in
    inl (has_written change _ (sym (ap Some c.in_ok-bytes.ensures.items)) refl)

pub returns-in_err-insert : goal.returns-in_err-insert
returns-in_err-insert c =
    let e = same_pieces c.args.self.now c.insert.new.self (c.in_err-insert.ensures.err ∙ ap (λ p. p.entries) c.get_mut.follows.holds-at-none) in
    inr (refl, grind (arith, common_steps), e)

pub returns : goal.returns
returns c =
    let change = Change-none c.args.self.now c.get_mut.follows.lender-at-none c.args.name c.in_default.ensures.value c.get_mut.follows.holds-at-none in
    inl (has_written (Change-again c.args.self.now _ c.insert.new.self c.args.name _ _ (Some _) change c.in_ok-insert.ensures.updates.0) _ (sym (ap Some c.in_ok-bytes.ensures.items)) refl)
