use Rattle.std.proofs.lemmas.Result.{err_from_is_err_and}
use Rattle.sweeper.proofs.looking.unused_names.Goals as goal

pub returns-in_err-add_unused-clause-err : goal.returns-in_err-add_unused-clause-err
returns-in_err-add_unused-clause-err g c =
    let passed = err_from_is_err_and c.from_residual.result c.from_residual.ensures.1 in
    rw (passed.1, passed.2) (c.add_unused.new.unused.keys, rw c.new-unused.ensures.empty at (c.in_err-add_unused.ensures))
