use Rattle.std.proofs.Common.{◌≡◌, ◌+◌, ◌≤◌, ◌∙◌, Err, Ok, length, rules, ap, subst, sym, vec_items}
use Rattle.std.proofs.lemmas.Result.{err_from_is_err_and}
use Rattle.layout.specs.Lines.{line_of}
use Rattle.layout.specs.Machines.{unread, whole, with_line, with_lines}
use Rattle.layout.specs.Reads.{TakesIn, reading_of}
use Rattle.layout.proofs.LinesRead.{cut, first_and_left, goes_on, is_done, left_in, left_less, lines_of, refused}
use Rattle.layout.proofs.machines.read_machines.Goals as goal

pub returns-in_err-take_in : goal.returns-in_err-take_in
returns-in_err-take_in c =
    let p = err_from_is_err_and c.from_residual.result c.from_residual.ensures.1 in
    let r = reading_of c.loop-rest.found in
    let s = reading_of c.take_in.new.self in
    let text = c.in-Some.lines.now in
    let line = c.split_line.result.0.now in
    let parts = first_and_left text line c.split_line.result.1 c.split_line.ensures.lines in
    let so_far : with_lines r c.loop-rest.number (cut text) ≡ with_lines unread 0 (cut c.args.text.now) = ap (λ o. with_lines r c.loop-rest.number (lines_of o)) (sym c.in-Some.is) ∙ c.loop-rest.invariant.0 in
    let takes : TakesIn r (c.loop-rest.number + 1) (line_of line) s (Err c.in_err-take_in.field-0.0) = subst (λ l. TakesIn r (c.loop-rest.number + 1) l s (Err c.in_err-take_in.field-0.0)) c.read_line.ensures c.in_err-take_in.ensures in
    rw (p.1, p.2) (refused r s c.loop-rest.number c.args.text.now text line c.split_line.result.1 c.in_err-take_in.field-0.0 takes parts so_far)

pub loop-rest-preserved : goal.loop-rest-preserved
loop-rest-preserved c =
    let r = reading_of c.loop-rest.found in
    let s = reading_of c.take_in.new.self in
    let text = c.in-Some.lines.now in
    let line = c.split_line.result.0.now in
    let parts = first_and_left text line c.split_line.result.1 c.split_line.ensures.lines in
    let so_far : with_lines r c.loop-rest.number (cut text) ≡ with_lines unread 0 (cut c.args.text.now) = ap (λ o. with_lines r c.loop-rest.number (lines_of o)) (sym c.in-Some.is) ∙ c.loop-rest.invariant.0 in
    let ok : with_line r (line_of line) ≡ Ok s = ap (with_line r) (sym c.read_line.ensures) ∙ c.in_ok-take_in.ensures in
    let before : c.loop-rest.number + (length text + 1) ≤ length c.args.text.now + 1 = subst (λ o. c.loop-rest.number + left_in o ≤ length c.args.text.now + 1) c.in-Some.is c.loop-rest.invariant.1 in
    (goes_on r s c.loop-rest.number text line c.split_line.result.1 (with_lines unread 0 (cut c.args.text.now)) ok parts so_far, left_less text c.split_line.result.1 c.loop-rest.number (length c.args.text.now + 1) c.split_line.ensures.shorter before)

pub returns-then-found : goal.returns-then-found
returns-then-found c =
    is_done (reading_of c.loop-rest.found) c.loop-rest.number c.args.text.now c.loop-rest.rest (search rules) c.loop-rest.invariant.0
    ∙ ap (λ b. whole (Ok (record { machines = vec_items c.loop-rest.found.machines; ended = b }))) c.if-found.true

pub returns-else-found : goal.returns-else-found
returns-else-found c =
    is_done (reading_of c.loop-rest.found) c.loop-rest.number c.args.text.now c.loop-rest.rest (search rules) c.loop-rest.invariant.0
    ∙ ap (λ b. whole (Ok (record { machines = vec_items c.loop-rest.found.machines; ended = b }))) c.if-found.false
