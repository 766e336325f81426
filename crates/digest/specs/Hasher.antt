-- What a hasher holds of the bytes that it was given.
-- Assumes nothing.
use Rattle.std.specs.Prelude.{◌≡◌, ℕ, ◌*◌, ◌%◌, ◌^◌, ◌<◌, List, ◌++◌, length}
use Rattle.digest.specs.declared.hasher.Hasher.{Hasher}
use Rattle.digest.specs.Sha256.{initial, hashed}

-- the hasher h was given the message m, in whatever parts
pub record Absorbed (h : Hasher) (m : List ℕ) : Type 0 where
  -- so many whole blocks of m are hashed
  pub blocks : ℕ
  pub front : List ℕ
  pub whole : length front ≡ 64 * blocks
  pub value : h.value ≡ hashed blocks initial front
  -- the bytes after them, fewer than a block, wait
  pub rest : m ≡ front ++ h.rest.items
  pub short : length h.rest.items < 64
  pub size : h.length ≡ length m % 2 ^ 64
