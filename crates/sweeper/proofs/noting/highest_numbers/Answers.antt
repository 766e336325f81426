use Rattle.std.proofs.lemmas.Result.{err_from_is_err_and}
use Rattle.sweeper.proofs.noting.highest_numbers.Goals as goal

pub returns-in_err-note_all : goal.returns-in_err-note_all
returns-in_err-note_all g c =
    let passed = err_from_is_err_and c.from_residual.result c.from_residual.ensures.1 in
    rw (passed.1, passed.2) (c.note_all.new.noted.highest, c.in_err-note_all.ensures)
