use Rattle.std.proofs.lemmas.Result.{err_from_is_err_and}
use Rattle.days.proofs.making.Underway.add_file.Goals as goal

pub returns-in_err-added : goal.returns-in_err-added
returns-in_err-added g c =
    let passed = err_from_is_err_and c.from_residual-in_err-added.result c.from_residual-in_err-added.ensures.1 in
    rw (passed.1, passed.2) (rw c.requires.cut.rule at c.in_err-added.ensures)
