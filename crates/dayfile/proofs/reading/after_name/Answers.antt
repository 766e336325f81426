use Rattle.std.proofs.Common.{Some, rules, arith, ap, ◌∙◌}
use Rattle.dayfile.proofs.Parts.{head_takes}
use Rattle.dayfile.proofs.reading.after_name.Goals as goal

pub returns : goal.returns
returns c =
    head_takes c.args.name c.args.body.now c.in_ok-number.rest.now (λ i. omega (arith, c.type_inv.body i)) (omega arith) (search rules) c.if-machine-name.false
    (c.in_ok-number.ensures ∙ ap (λ n. Some (n, c.in_ok-number.rest.now)) c.if-number-name.false)
