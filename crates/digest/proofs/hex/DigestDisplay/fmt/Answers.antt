use Rattle.std.proofs.Common.{rules}
use Rattle.std.proofs.lemmas.Str.{IsUtf8-from_ascii}
use Rattle.digest.proofs.hex.DigestDisplay.fmt.Goals as goal

pub unwrap-text-requires : goal.unwrap-text-requires
unwrap-text-requires g c = let text = IsUtf8-from_ascii _ c.digits-digits.ensures.ascii in search rules
