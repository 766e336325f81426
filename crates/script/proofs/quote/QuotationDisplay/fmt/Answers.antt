use Rattle.std.proofs.Common.{ℕ, arith, length-take}
use Rattle.std.proofs.Output.{has_written_of_eq}
use Rattle.script.proofs.Shown.{quoted_whole, quoted_front}
use Rattle.script.proofs.quote.QuotationDisplay.fmt.Goals as goal

pub slice_bounds-write-end : goal.slice_bounds-write-end
slice_bounds-write-end g c = omega (arith, length-take {A = ℕ})

pub returns-then-self-gt-MOST_SHOWN-clause-writes : goal.returns-then-self-gt-MOST_SHOWN-clause-writes
returns-then-self-gt-MOST_SHOWN-clause-writes g c = λ p ok.
    has_written_of_eq g.W.Write.write_str_gives _ _ _ _ (quoted_front _ c.if-self-gt-MOST_SHOWN.true) (c.write.ensures.writes p ok)

pub returns-else-self-gt-MOST_SHOWN-clause-writes : goal.returns-else-self-gt-MOST_SHOWN-clause-writes
returns-else-self-gt-MOST_SHOWN-clause-writes g c = λ p ok.
    has_written_of_eq g.W.Write.write_str_gives _ _ _ _ (quoted_whole _ c.if-self-gt-MOST_SHOWN.false) (c.write-else-self-gt-MOST_SHOWN.ensures.writes p ok)
