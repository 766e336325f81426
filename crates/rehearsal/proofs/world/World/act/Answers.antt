use Rattle.std.proofs.Common.{◌≡◌, ap, inl, inr, refl, arith, length, sym, Some, ◌∙◌}
use Rattle.std.proofs.lemmas.Option.{slice_get-get_or}
use Rattle.std.proofs.lemmas.Grind.{common_steps}
use Rattle.std.proofs.lemmas.List.{length-map}
use Rattle.std.specs.List.{slice_get}
use Rattle.std.specs.Option.{option_and_then}
use Rattle.days.specs.Machines.{makes}
use Rattle.rehearsal.proofs.Machines.{same_world, acts_equal, get-set_same, get-set_other, number_at}
use Rattle.rehearsal.proofs.world.World.act.Goals as goal

pub returns : goal.returns
returns c =
    let ms = c.args.self.now.machines.items in
    let i = c.args.machine in
    let within = c.in-Some.ensures.item.3.0 in
    let here : slice_get ms i ≡ Some c.replace-taken.result = slice_get-get_or ms i c.in-Some.slot.now within ∙ ap Some (sym c.in-Some.ensures.value ∙ sym c.replace-taken.ensures.value) in
    let number = number_at ms i c.replace-taken.result c.args.self.now.numbered here in
    let after = get-set_same ms i c.done_by-after.result.0 within in
    inr (
      c.in_ok-check.ensures,
      inr (
        number.1,
        acts_equal c.args.act i _ _ _ _ _ c.args.self.now.store c.done_by-after.new.store c.done_by-after.result.1 number.0 (sym (ap (option_and_then makes) here)) (sym (ap (option_and_then makes) after)) c.done_by-after.ensures.step,
        λ j apart. ap (option_and_then makes) (get-set_other ms i j c.done_by-after.result.0 apart),
        refl,
      ),
    )

pub returns-in_default : goal.returns-in_default
returns-in_default c = inr (
  c.in_ok-check.ensures,
  inl (
    grind (arith, common_steps, ap length c.args.self.now.numbered, length-map c.args.self.now.machines.items (λ m. m.number), c.in_default.ensures.variant),
    refl,
    same_world c.args.self.now _,
  ),
)
