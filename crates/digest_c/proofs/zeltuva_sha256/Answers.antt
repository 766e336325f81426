use Rattle.std.proofs.Common.{rules}
use Rattle.digest.specs.Digests.{digest_of}
use Rattle.digest_c.proofs.zeltuva_sha256.Goals as goal

pub returns-clause-after : goal.returns-clause-after
unfolding digest_of
returns-clause-after c = search rules
