use Rattle.std.proofs.Common.{◌∙◌, length}
use Rattle.std.proofs.lemmas.Result.{err_from_is_err_and}
use Rattle.store.proofs.Loops.{loop_stops, times_more}
use Rattle.days.proofs.reading.join_all.Goals as goal

pub returns-in_err-join_piece-clause-joins : goal.returns-in_err-join_piece-clause-joins
returns-in_err-join_piece-clause-joins g c =
    let passed = err_from_is_err_and c.from_residual.result c.from_residual.ensures.1 in
    rw (passed.1, passed.2) (loop_stops _ c.loop-name.name-index (length c.args.names.now) _ _ _ _ _ _ _ c.loop-name-test.true c.loop-name.invariant.done (rw c.loop-name.invariant.same at c.in_err-join_piece.ensures.joins))

pub loop-name-preserved : goal.loop-name-preserved
loop-name-preserved g c =
    record {
      done = times_more _ c.loop-name.name-index _ _ _ _ _ _ c.loop-name.invariant.done (rw c.loop-name.invariant.same at c.in_ok-join_piece.ensures.joins);
      same = c.in_ok-join_piece.ensures.length ∙ c.loop-name.invariant.same;
      inside = c.in_ok-join_piece.ensures.at;
    }
