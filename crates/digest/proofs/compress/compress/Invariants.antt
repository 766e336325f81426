use Rattle.std.proofs.Common.{◌≡◌, ◌*◌}
use Rattle.digest.specs.Sha256.{schedule, rounds}
use Rattle.digest.proofs.compress.compress.Given as goal

abbrev pub invariant-loop-k : goal.invariant-loop-k
invariant-loop-k l = record {
  same : l.schedule.block.now ≡ l.block;
  filled : l.schedule.filled ≡ 4 * l.k-index;
  done : l.words ≡ rounds l.schedule.filled l.before (schedule 64 l.block);
}
