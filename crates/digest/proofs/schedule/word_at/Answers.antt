use Rattle.std.proofs.Common.{◌∙◌, ◌/◌, length, arith}
use Rattle.digest.proofs.Chunks.{word_of_chunk}
use Rattle.digest.proofs.schedule.word_at.Goals as goal

pub returns : goal.returns
returns c = c.from_be_bytes.ensures ∙ word_of_chunk (length c.args.block.now / 4) c.args.i c.args.block.now _ _ c.as_chunks.ensures.front (omega arith)
