use Rattle.std.proofs.Common.{take}
use Rattle.digest.specs.Digests.{joined}
use Rattle.digest.specs.Hasher.{Absorbed}
use Rattle.digest.proofs.many.sha256_parts.Given as goal

abbrev pub invariant-loop-part : goal.invariant-loop-part
invariant-loop-part l = Absorbed l.hasher (joined (take l.part-index l.parts))
