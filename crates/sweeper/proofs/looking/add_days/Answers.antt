use Rattle.std.proofs.Common.{inr}
use Rattle.std.proofs.lemmas.Result.{err_from_is_err_and}
use Rattle.sweeper.specs.Looking.{AddsDayOf}
use Rattle.sweeper.proofs.Loops.{loop_stops}
use Rattle.sweeper.proofs.looking.add_days.Goals as goal

pub returns-in_err-add_day : goal.returns-in_err-add_day
returns-in_err-add_day g c =
    let passed = err_from_is_err_and c.from_residual-in_err-add_day.result c.from_residual-in_err-add_day.ensures.1 in
    rw (passed.1, passed.2)
    (inr (
      c.in_ok-number-end.number-end,
      c.highest.new.self,
      c.in_ok-number-end.ensures,
      loop_stops (AddsDayOf g.S.Store.does c.args.machine) _ _ _ _ _ _ _ _ _ c.loop-number-test.true c.loop-number.invariant c.in_err-add_day.ensures,
    ))
