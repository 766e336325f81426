use Rattle.cutting.proofs.Further.{short_first, first_found, first_at_most}
use Rattle.cutting.proofs.ending.piece_length.Goals as goal

pub returns-in_default-clause-first : goal.returns-in_default-clause-first
returns-in_default-clause-first c = short_first _ _ c.min-most.ensures c.in_default.ensures.cases

pub returns-in-Break-clause-first : goal.returns-in-Break-clause-first
returns-in-Break-clause-first c = λ some. first_found _ _ _ _ _ c.min-most.ensures c.in-Some.ensures.cases c.number_after.ensures.number _ c.in-Break.ensures

pub returns-in-Continue-clause-first : goal.returns-in-Continue-clause-first
returns-in-Continue-clause-first c = λ some. first_at_most _ _ _ _ _ c.min-most.ensures c.in-Some.ensures.cases c.number_after.ensures.number _ c.in-Continue.ensures
