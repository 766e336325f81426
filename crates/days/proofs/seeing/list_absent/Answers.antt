use Rattle.std.proofs.Common.{◌≤◌, [], length, slice_index_or, sym, subst}
use Rattle.std.proofs.lemmas.List.{length-map}
use Rattle.std.proofs.lemmas.Result.{err_from_is_err_and}
use Rattle.cutting.specs.Results.{contents}
use Rattle.days.specs.Steps.{ListsAbsent}
use Rattle.days.proofs.Places.{piece_at, stops_at}
use Rattle.days.proofs.seeing.list_absent.Goals as goal

pub list_part-requires-clause-room : goal.list_part-requires-clause-room
list_part-requires-clause-room g c =
    let ps = c.args.pieces.now in
    let few = c.requires.room c.loop-i.i (rw (length-map ps (λ p. p.now)) c.loop-i-test.true) in
    let room = subst (λ n. length (slice_index_or (contents ps) c.loop-i.i []) ≤ n) (sym c.loop-i.invariant.1) few in
    subst (λ p. length p ≤ length c.loop-i.buffer) (piece_at ps c.loop-i.i _ c.loop-i-test.true) room

pub returns-in_err-list_part-clause-lists : goal.returns-in_err-list_part-clause-lists
returns-in_err-list_part-clause-lists g c =
    let passed = err_from_is_err_and c.from_residual.result c.from_residual.ensures.1 in
    rw (passed.1, passed.2) (stops_at (ListsAbsent g.S.Store.does c.args.machine) c.args.pieces.now c.loop-i.i _ _ _ _ _ _ _ _ c.loop-i-test.true c.loop-i.invariant.0 c.in_err-list_part.ensures.lists)
