use Rattle.std.proofs.Common.{Err, subst}
use Rattle.std.proofs.lemmas.Result.{err_from_is_err_and}
use Rattle.rehearsal.specs.Worlds.{HasBack}
use Rattle.rehearsal.proofs.step.Step.play.Goals as goal

pub returns-in_err-back-in-Back : goal.returns-in_err-back-in-Back
returns-in_err-back-in-Back c =
    let day = c.in-Back in
    let passed = err_from_is_err_and c.from_residual-in_err-back-in-Back.result c.from_residual-in_err-back-in-Back.ensures.1 in
    rw (day.is, passed.1, passed.2) (subst (λ path. HasBack day.machine day.number path c.args.world.now (Err c.in_err-back-in-Back.field-0.0) c.back.new.self) c.deref.ensures.value c.in_err-back-in-Back.ensures.has)
