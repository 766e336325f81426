use Rattle.std.proofs.Common.{refl, arith}
use Rattle.digest.specs.Hex.{hex}
use Rattle.digest.specs.Sha256.{K, T1, T2, Wt, big_endian, block, compressed, gap, hashed, initial, joined_words, longer, padded, round, rounds, schedule, sha256, word, word_bytes}
use Rattle.digest.proofs.examples.worked_examples.Goals as goal

pub returns : goal.returns
unfolding hex K T1 T2 Wt big_endian block compressed gap hashed initial joined_words longer padded round rounds schedule sha256 word word_bytes
returns c = record {
  examples = record { empty = refl; one_block = refl; two_blocks = refl; longer = refl };
  padding = record { fills = λ l. omega arith; fewest = λ l k h e. omega arith };
}
