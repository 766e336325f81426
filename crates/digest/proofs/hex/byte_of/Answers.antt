use Rattle.std.proofs.Common.{ℕ, ◌/◌, ◌%◌, List, get_or, ap, arith}
use Rattle.std.proofs.lemmas.Result.{MatchResult-from_err}
use Rattle.digest.specs.Hex.{hex}
use Rattle.digest.proofs.Digits.{two_digits}
use Rattle.digest.proofs.hex.byte_of.Goals as goal

pub returns-in_err-value_of : goal.returns-in_err-value_of
unfolding hex
returns-in_err-value_of c =
    MatchResult-from_err c.from_residual.result _ _ c.from_residual.ensures.0
    (λ _ byte fits e. c.in_err-value_of.ensures (byte / 16) (omega arith) (ap (λ (l : List ℕ). get_or l 0 0) e))

pub returns-in_err-value_of-2 : goal.returns-in_err-value_of-2
unfolding hex
returns-in_err-value_of-2 c =
    MatchResult-from_err c.from_residual-in_err-value_of-2.result _ _ c.from_residual-in_err-value_of-2.ensures.0
    (λ _ byte fits e. c.in_err-value_of-2.ensures (byte % 16) (omega arith) (ap (λ (l : List ℕ). get_or l 1 0) e))

pub returns : goal.returns
returns c =
    let high = c.in_ok-value_of.ensures in
    let low = c.in_ok-value_of-2.ensures in
    (omega arith, two_digits c.args.pair _ _ (omega arith) high.0 low.0 high.1 low.1)
