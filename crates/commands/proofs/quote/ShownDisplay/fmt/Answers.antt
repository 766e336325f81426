use Rattle.std.proofs.Common.{is_ok, sym, ap}
use Rattle.std.proofs.Output.{has_written_of_eq, has_written_append, writes_in_calls_nil}
use Rattle.commands.specs.Quotes.{shown_bytes}
use Rattle.commands.proofs.Shown.{shown_more}
use Rattle.commands.proofs.quote.ShownDisplay.fmt.Goals as goal

pub loop-b-init : goal.loop-b-init
unfolding shown_bytes
loop-b-init g c = λ plain. record { wrote = writes_in_calls_nil g.W.Write.write_str_gives _; plain = plain }

pub loop-b-preserved : goal.loop-b-preserved
loop-b-preserved g c =
    λ plain.
    let so_far = c.loop-b.invariant plain in
    has_written_of_eq g.W.Write.write_str_gives _ _ _ _ (sym (shown_more c.args.self.now.0.now c.loop-b.b-index c.loop-b-test.true)) (has_written_append g.W.Write.write_str_gives _ _ _ _ _ so_far (c.write.ensures.writes so_far.plain (ap is_ok c.in_ok-write.was)))
