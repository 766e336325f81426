-- A list of names.
-- Assumes nothing.
use Rattle.std.specs.Prelude.{ℕ, ◌-◌, ◌%◌, take, ◌/◌, List, length, map}
use Rattle.std.specs.List.{flat_map}
use Rattle.std.specs.Simd.{first_chunks}
use Rattle.digest.specs.declared.value.Digest.{Digest}

-- the names that bytes hold: one for each 32 bytes, from the first on; what is left behind the last counts for nothing
abbrev pub listed_in : List ℕ → List Digest
listed_in bytes = map (λ n. record { bytes = n }) (first_chunks 32 (length bytes / 32) bytes)

-- names as bytes, one after the other
abbrev pub joined : List Digest → List ℕ
joined names = flat_map (λ n. n.bytes) names

-- a list without what is left behind its last whole name
abbrev pub whole_names : List ℕ → List ℕ
whole_names bytes = take (length bytes - length bytes % 32) bytes
