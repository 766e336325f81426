use Rattle.std.proofs.Common.{inl, inr}
use Rattle.std.proofs.lemmas.Result.{err_from_is_err_and}
use Rattle.sweeper.specs.Sweepers.{turns_of}
use Rattle.sweeper.proofs.sweeper.Sweeper.find_turns.Goals as goal

pub returns-in_err-used : goal.returns-in_err-used
returns-in_err-used g c =
    let passed = err_from_is_err_and c.from_residual.result c.from_residual.ensures.1 in
    rw (passed.1, passed.2) (inl c.in_err-used.ensures.err)

pub returns-in_err-keep : goal.returns-in_err-keep
returns-in_err-keep g c =
    let passed = err_from_is_err_and c.from_residual-in_err-keep.result c.from_residual-in_err-keep.ensures.1 in
    rw (passed.1, passed.2)
    (inr (c.in_ok-used.used.keys, c.read_days.new.store, turns_of c.in_ok-turns.turns, c.in_ok-used.ensures.ok, inr (c.all_turns.new.store, c.in_ok-turns.ensures.ok, c.in_err-keep.ensures)))
