use Rattle.std.proofs.Common.{◌≡◌, true, false, length, ap, ◌∙◌, arith}
use Rattle.std.specs.Int.{w32, from_be_bytes}
use Rattle.layout.proofs.Noting.{number_body, number_is}
use Rattle.layout.proofs.numbers.read_number.Goals as goal

pub returns-in_err-number-clause-back : goal.returns-in_err-number-clause-back
returns-in_err-number-clause-back c = λ n below e.
    let long = ap length (number_body c.args.bytes.now c.in_ok-body.body.now n c.in_ok-body.ensures e) in
    let no : false ≡ true = c.in_err-number.ensures.variant.1 long in
    absurd cc

pub returns-clause-only : goal.returns-clause-only
returns-clause-only c =
    let whole = c.in_ok-number.ensures.cases in
    number_is c.args.bytes.now c.in_ok-body.body.now c.from_be_bytes.result (λ i. omega (arith, c.type_inv.bytes i)) c.in_ok-body.ensures whole.long (c.from_be_bytes.ensures ∙ ap (from_be_bytes w32) whole.same)
