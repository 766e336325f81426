use Rattle.std.proofs.Common.{is_ok, sym, ap}
use Rattle.std.proofs.Output.{has_written_of_eq, has_written_append, writes_in_calls_nil}
use Rattle.digest.specs.Hex.{hex}
use Rattle.rehearsal.proofs.Digits.{hex_more}
use Rattle.rehearsal.proofs.answer.write_hex.Goals as goal

pub loop-byte-init : goal.loop-byte-init
unfolding hex
loop-byte-init g c = λ plain. record { wrote = writes_in_calls_nil g.W.Write.write_str_gives _; plain = plain }

pub loop-byte-preserved : goal.loop-byte-preserved
loop-byte-preserved g c =
    λ plain.
    let so_far = c.loop-byte.invariant plain in
    has_written_of_eq g.W.Write.write_str_gives _ _ _ _ (sym (hex_more c.args.bytes.now c.loop-byte.byte-index c.loop-byte-test.true)) (has_written_append g.W.Write.write_str_gives _ _ _ _ _ so_far (c.write.ensures.writes so_far.plain (ap is_ok c.in_ok-write.was)))
