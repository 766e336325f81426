use Rattle.std.proofs.Common.{rules}
use Rattle.digest.specs.Hex.{hex}
use Rattle.digest.proofs.hex.pair_of.Goals as goal

pub returns-clause-value : goal.returns-clause-value
unfolding hex
returns-clause-value c = search rules
