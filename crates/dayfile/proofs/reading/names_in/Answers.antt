use Rattle.std.proofs.Common.{◌≡◌, None}
use Rattle.std.proofs.lemmas.Result.{err_from_is_err_and}
use Rattle.dayfile.specs.Reading.{many_at, name_at}
use Rattle.dayfile.proofs.Loop.{Fails-then, goes_on, ends, is_done}
use Rattle.dayfile.proofs.reading.names_in.Goals as goal

pub returns-in_err-name : goal.returns-in_err-name
returns-in_err-name c =
    let p = err_from_is_err_and c.from_residual.result c.from_residual.ensures.1 in
    let total = many_at name_at c.args.count c.args.bytes.now in
    rw (p.1, p.2) (Fails-then c.in_err-name.field-0.0 (name_at c.loop.rest.now ≡ None) (total ≡ None) (λ h. ends name_at c.loop.names.items c.args.count c.loop.counter c.loop.rest.now total c.loop-test.true h c.loop.invariant) c.in_err-name.ensures)

pub loop-preserved : goal.loop-preserved
loop-preserved c =
    rw c.in_ok-push.ensures.items (goes_on name_at c.loop.names.items c.args.count c.loop.counter c.loop.rest.now c.in_ok-name.name c.in_ok-name.after.now (many_at name_at c.args.count c.args.bytes.now) c.loop-test.true c.in_ok-name.ensures c.loop.invariant)

pub returns : goal.returns
returns c = is_done name_at c.loop.names.items c.args.count c.loop.counter c.loop.rest.now (many_at name_at c.args.count c.args.bytes.now) c.loop-test.false c.loop.invariant
