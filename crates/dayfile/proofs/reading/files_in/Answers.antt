use Rattle.std.proofs.Common.{◌≡◌, None}
use Rattle.std.proofs.lemmas.Result.{err_from_is_err_and}
use Rattle.dayfile.specs.Days.{files_of}
use Rattle.dayfile.specs.Files.{entry_of}
use Rattle.dayfile.specs.Reading.{entry_at, many_at}
use Rattle.dayfile.proofs.Loop.{Fails-then, NoDay, goes_on, is_done, no_entry, no_place, refused}
use Rattle.dayfile.proofs.reading.files_in.Goals as goal

pub returns-in_err-entry : goal.returns-in_err-entry
returns-in_err-entry c =
    let p = err_from_is_err_and c.from_residual.result c.from_residual.ensures.1 in
    let total = many_at entry_at c.args.count c.args.bytes.now in
    rw (p.1, p.2) (Fails-then c.in_err-entry.field-0.0 (entry_at c.loop.rest.now ≡ None) (NoDay total) (λ h. no_entry (files_of c.loop.day) c.args.count c.loop.counter c.loop.rest.now total c.loop-test.true h c.loop.invariant) c.in_err-entry.ensures)

pub returns-in-Err : goal.returns-in-Err
returns-in-Err c =
    let r = c.in-Err.refusal in
    let x = entry_of c.in_ok-entry.entry in
    let es = files_of c.loop.day in
    let total = many_at entry_at c.args.count c.args.bytes.now in
    rw c.bad_day.ensures (refused es x total r (no_place es c.args.count c.loop.counter c.loop.rest.now x c.in_ok-entry.after.now total r c.loop-test.true c.in_ok-entry.ensures c.loop.invariant) c.in-Err.ensures.refused.0)

pub loop-preserved : goal.loop-preserved
loop-preserved c =
    rw c.in-Ok.ensures.done (goes_on entry_at (files_of c.loop.day) c.args.count c.loop.counter c.loop.rest.now (entry_of c.in_ok-entry.entry) c.in_ok-entry.after.now (many_at entry_at c.args.count c.args.bytes.now) c.loop-test.true c.in_ok-entry.ensures c.loop.invariant)

pub returns : goal.returns
returns c = is_done entry_at (files_of c.loop.day) c.args.count c.loop.counter c.loop.rest.now (many_at entry_at c.args.count c.args.bytes.now) c.loop-test.false c.loop.invariant
