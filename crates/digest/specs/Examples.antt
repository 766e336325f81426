-- What shows that the definitions are SHA-256: worked examples, and the standard's own words on padding.
-- Assumes nothing.
use Rattle.std.specs.Prelude.{◌≡◌, ℕ, ◌+◌, ◌%◌, ◌<◌, codes, ◌≢◌}
use Rattle.digest.specs.Hex.{hex}
use Rattle.digest.specs.Sha256.{gap, sha256}

-- digests of texts in ASCII, in hexadecimal
pub record Examples : Type 0 where
  -- no bytes
  pub empty : hex (sha256 (codes "")) ≡ codes "e3b0c44298fc1c149afbf4c8996fb92427ae41e4649b934ca495991b7852b855"
  -- the standard's first worked example: one block
  pub one_block : hex (sha256 (codes "abc")) ≡ codes "ba7816bf8f01cfea414140de5dae2223b00361a396177a9cb410ff61f20015ad"
  -- its second: 56 bytes, so that the length has no room in the first block
  pub two_blocks : hex (sha256 (codes "abcdbcdecdefdefgefghfghighijhijkijkljklmklmnlmnomnopnopq")) ≡ codes "248d6a61d20638b8e5c026930c3e6039a33ce45964ff2167f6ecedd419db06c1"
  -- 112 bytes
  pub longer : hex (sha256 (codes "abcdefghbcdefghicdefghijdefghijkefghijklfghijklmghijklmnhijklmnoijklmnopjklmnopqklmnopqrlmnopqrsmnopqrstnopqrstu")) ≡ codes "cf5b16a778af8380036ce59e7b0492370b249b11e8f07a51afac45037afee9d1"

-- 5.1.1: with a bit 1 after the message, the fewest bits 0 follow that leave 64 bits of a block of 512; here in bytes
pub record Padding : Type 0 where
  pub fills : (l : ℕ) → (l + 1 + gap l) % 64 ≡ 56
  pub fewest : (l k : ℕ) → k < gap l → (l + 1 + k) % 64 ≢ 56
