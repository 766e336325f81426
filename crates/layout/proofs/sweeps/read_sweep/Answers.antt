use Rattle.std.proofs.Common.{sym, ◌∙◌}
use Rattle.dayfile.proofs.OneForm.{same_signed}
use Rattle.layout.specs.Sweeps.{sweep_body}
use Rattle.layout.proofs.sweeps.read_sweep.Goals as goal

pub returns-clause-back : goal.returns-clause-back
returns-clause-back c = λ s is e. c.sweep_in.ensures.back s is (same_signed c.in_ok-before_digest.field-0.now (sweep_body s) (sym c.in_ok-before_digest.ensures ∙ e))
