use Rattle.std.proofs.Common.{◌<◌, arith}
use Rattle.digest.specs.Sha256.{K}
use Rattle.digest.proofs.Rounds.{round_more}
use Rattle.digest.proofs.compress.compress.Goals as goal

pub loop-k-preserved : goal.loop-k-preserved
unfolding K
loop-k-preserved c =
    let i = c.loop-k.k-index in
    let below : i < 16 = omega (arith, c.as_chunks.ensures.front_len) in
    let cut = c.as_chunks.ensures.front in
    let one = round_more i 0 _ _ _ cut below c.next_word.ensures.filled c.loop-k.invariant.done c.round-words.ensures (omega arith) (omega arith) (cc) in
    let two = round_more i 1 _ _ _ cut below c.next_word-in-loop-k.ensures.filled one c.round-words-in-loop-k.ensures (omega arith) (omega arith) (cc) in
    let three = round_more i 2 _ _ _ cut below c.next_word-in-loop-k-2.ensures.filled two c.round-words-in-loop-k-2.ensures (omega arith) (omega arith) (cc) in
    let four = round_more i 3 _ _ _ cut below c.next_word-in-loop-k-3.ensures.filled three c.round-words-in-loop-k-3.ensures (omega arith) (omega arith) (cc) in
    record { same = cc; filled = omega arith; done = four }
