use Rattle.std.proofs.Common.{rules, sym, ap, is_ok}
use Rattle.std.proofs.Output.{has_written_of_eq, has_written_append}
use Rattle.digest.specs.Hex.{hex}
use Rattle.readdays.proofs.Digits.{hex-take_more}
use Rattle.readdays.proofs.texts.write_digits.Goals as goal

pub loop-byte-init : goal.loop-byte-init
unfolding hex
loop-byte-init g c = search rules

pub loop-byte-preserved : goal.loop-byte-preserved
loop-byte-preserved g c =
    λ plain.
    let so_far = c.loop-byte.invariant plain in
    has_written_of_eq g.W.Write.write_str_gives _ _ _ _ (sym (hex-take_more c.args.bytes.now c.loop-byte.byte-index c.loop-byte-test.true)) (has_written_append g.W.Write.write_str_gives _ _ _ _ _ so_far (c.write_byte.ensures so_far.plain (ap is_ok c.in_ok-write_byte.was)))
