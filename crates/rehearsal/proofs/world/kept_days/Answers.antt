use Rattle.std.proofs.Common.{subst}
use Rattle.std.proofs.lemmas.List.{take_all, take_more}
use Rattle.rehearsal.specs.Shows.{ShowsDay}
use Rattle.rehearsal.proofs.Kept.{show_more, show_none}
use Rattle.rehearsal.proofs.world.kept_days.Goals as goal

pub loop-day-init : goal.loop-day-init
loop-day-init c = rw c.new-shown.ensures.items show_none

pub loop-day-preserved : goal.loop-day-preserved
loop-day-preserved c =
    let more = take_more c.args.days.now c.loop-day.day-index c.day-item.result c.loop-day-test.true in
    rw (more, c.in_ok-push.ensures.items) (show_more _ _ _ _ c.loop-day.invariant (subst (λ d. ShowsDay d c.in_ok-kept_day.field-0) c.day-item.is c.in_ok-kept_day.ensures))

pub returns : goal.returns
returns c = rw (take_all c.loop-day.day-index c.args.days.now c.loop-day-test.false) at c.loop-day.invariant
