use Rattle.std.proofs.Common.{inl}
use Rattle.std.proofs.lemmas.Result.{err_from_is_err_and}
use Rattle.days.proofs.reading.join_piece.Goals as goal

pub returns-in_err-piece-clause-joins : goal.returns-in_err-piece-clause-joins
returns-in_err-piece-clause-joins g c =
    let passed = err_from_is_err_and c.from_residual.result c.from_residual.ensures.1 in
    rw (passed.1, passed.2) (inl c.in_err-piece.ensures)
