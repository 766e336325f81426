-- Digests of messages.
-- Assumes nothing.
use Rattle.std.specs.Prelude.{ℕ, List, map}
use Rattle.std.specs.Borrow.{Bor}
use Rattle.std.specs.List.{flat_map}
use Rattle.digest.specs.declared.value.Digest.{Digest}
use Rattle.digest.specs.Sha256.{sha256}

-- the digest of a message
unfoldable pub digest_of : List ℕ → Digest
digest_of m = record { bytes = sha256 m }

-- the message that lies in several slices, one after the other
abbrev pub joined : List (Bor (List ℕ)) → List ℕ
joined ps = flat_map (λ p. p.now) ps

-- the digest of each of several messages, in their order
abbrev pub digest_of_each : List (Bor (List ℕ)) → List Digest
digest_of_each ms = map (λ m. digest_of m.now) ms
