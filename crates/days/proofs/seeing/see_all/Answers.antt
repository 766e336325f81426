use Rattle.std.proofs.Common.{◌≤◌, [], length, slice_index_or, sym, subst}
use Rattle.std.proofs.lemmas.List.{length-map}
use Rattle.std.proofs.lemmas.Result.{err_from_is_err_and}
use Rattle.cutting.specs.Results.{contents}
use Rattle.days.specs.Steps.{SeesPiece}
use Rattle.days.proofs.Places.{piece_at, stops_at}
use Rattle.days.proofs.seeing.see_all.Goals as goal

pub see_part-requires-clause-room : goal.see_part-requires-clause-room
see_part-requires-clause-room g c =
    let ps = c.args.pieces.now in
    let few = c.requires.room c.loop-k.k (rw (length-map ps (λ p. p.now)) c.loop-k-test.true) in
    let room = subst (λ n. length (slice_index_or (contents ps) c.loop-k.k []) ≤ n) (sym c.loop-k.invariant.2) few in
    subst (λ p. length p ≤ length c.loop-k.buffer) (piece_at ps c.loop-k.k _ c.loop-k-test.true) room

pub returns-in_err-see_part : goal.returns-in_err-see_part
returns-in_err-see_part g c =
    let passed = err_from_is_err_and c.from_residual.result c.from_residual.ensures.1 in
    rw (passed.1, passed.2) (stops_at (SeesPiece g.S.Store.does c.args.machine) c.args.pieces.now c.loop-k.k _ _ _ _ _ _ _ _ c.loop-k-test.true c.loop-k.invariant.0 c.in_err-see_part.ensures.sees)
