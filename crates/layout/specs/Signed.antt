-- Bytes with their digest behind them.
-- Assumes nothing.
use Rattle.std.specs.Prelude.{ℕ, List, ◌++◌}
use Rattle.digest.specs.Digests.{digest_of}

-- the bytes, and then their digest
abbrev pub signed : List ℕ → List ℕ
signed body = body ++ (digest_of body).bytes
