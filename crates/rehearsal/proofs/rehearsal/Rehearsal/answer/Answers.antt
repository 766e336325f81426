use Rattle.rehearsal.proofs.Reached.{loses_nothing, still_sound}
use Rattle.rehearsal.proofs.rehearsal.Rehearsal.answer.Goals as goal

pub invariant_of-self : goal.invariant_of-self
invariant_of-self c =
    let old = c.args.self.now in
    let answered = c.answer_line-answer in
    record { reached = rw c.is_damage.ensures (still_sound old.damaged answered.result old.world answered.new.world old.reached answered.ensures.steps) }

pub returns-clause-promise : goal.returns-clause-promise
returns-clause-promise c =
    let old = c.args.self.now in
    let answered = c.answer_line-answer in
    rw c.is_damage.ensures (loses_nothing old.damaged answered.result old.world answered.new.world old.reached answered.ensures.steps)
