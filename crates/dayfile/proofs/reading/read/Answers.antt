use Rattle.std.proofs.Common.{◌≡◌, List, ℕ, [], ◌++◌, ◌<◌, None, length, rules, arith}
use Rattle.std.proofs.lemmas.List.{nil_from_length}
use Rattle.std.proofs.lemmas.Result.{err_from_is_err_and}
use Rattle.std.specs.Int.{w16}
use Rattle.dayfile.specs.Days.{files_of}
use Rattle.dayfile.specs.Reading.{entry_at, many_at, number_at}
use Rattle.dayfile.specs.Reads.{head}
use Rattle.dayfile.proofs.Loop.{Fails-then, NoDay}
use Rattle.dayfile.proofs.Whole.{Opens, is_day_file, no_count, no_day, no_head, no_more}
use Rattle.dayfile.proofs.reading.read.Goals as goal

pub returns-in_err-rest : goal.returns-in_err-rest
returns-in_err-rest c =
    let p = err_from_is_err_and c.from_residual-in_err-rest.result c.from_residual-in_err-rest.ensures.1 in
    let whole = c.in_ok-body.body.now in
    rw (p.1, p.2) (Fails-then c.in_err-rest.field-0.0 ((rest : List ℕ) → whole ≡ head c.args.name ++ rest → ⊥) _ (no_head c.args.name c.args.bytes.now whole [] c.in_ok-body.ensures) c.in_err-rest.ensures)

pub returns-in_err-count : goal.returns-in_err-count
returns-in_err-count c =
    let p = err_from_is_err_and c.from_residual-in_err-count.result c.from_residual-in_err-count.ensures.1 in
    let whole = c.in_ok-body.body.now in
    let rest = c.in_ok-rest.rest.now in
    let o : Opens c.args.name c.args.bytes.now whole rest = record { signed = c.in_ok-body.ensures; begins = c.in_ok-rest.ensures } in
    rw (p.1, p.2) (Fails-then c.in_err-count.field-0.0 (number_at w16 rest ≡ None) _ (no_count c.args.name c.args.bytes.now whole rest o) c.in_err-count.ensures)

pub returns-in_err-day : goal.returns-in_err-day
returns-in_err-day c =
    let p = err_from_is_err_and c.from_residual-in_err-day.result c.from_residual-in_err-day.ensures.1 in
    let whole = c.in_ok-body.body.now in
    let rest = c.in_ok-rest.rest.now in
    let after = c.in_ok-count.rest.now in
    let o : Opens c.args.name c.args.bytes.now whole rest = record { signed = c.in_ok-body.ensures; begins = c.in_ok-rest.ensures } in
    rw (p.1, p.2) (Fails-then c.in_err-day.field-0.0 (NoDay (many_at entry_at c.in_ok-count.count after)) _ (no_day c.args.name c.args.bytes.now whole rest c.in_ok-count.count after o c.in_ok-count.ensures) c.in_err-day.ensures)

pub returns-then-not-is_empty : goal.returns-then-not-is_empty
returns-then-not-is_empty c =
    let whole = c.in_ok-body.body.now in
    let rest = c.in_ok-rest.rest.now in
    let more = c.in_ok-day.rest.now in
    let o : Opens c.args.name c.args.bytes.now whole rest = record { signed = c.in_ok-body.ensures; begins = c.in_ok-rest.ensures } in
    let some : 0 < length more = search rules in
    no_more c.args.name c.args.bytes.now whole rest c.in_ok-count.count c.in_ok-count.rest.now (files_of c.in_ok-day.day) more o c.in_ok-count.ensures c.in_ok-day.ensures some

pub returns : goal.returns
returns c =
    let whole = c.in_ok-body.body.now in
    let rest = c.in_ok-rest.rest.now in
    let more = c.in_ok-day.rest.now in
    let o : Opens c.args.name c.args.bytes.now whole rest = record { signed = c.in_ok-body.ensures; begins = c.in_ok-rest.ensures } in
    let none : length more ≡ 0 = search rules in (
      c.in_ok-day.day.fits,
      is_day_file c.args.name c.args.bytes.now whole rest c.in_ok-count.count c.in_ok-count.rest.now (files_of c.in_ok-day.day) more (λ i. omega (arith, c.type_inv.bytes i)) o c.in_ok-count.ensures c.in_ok-day.ensures (nil_from_length more none),
    )
