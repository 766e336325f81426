-- What is done with each name of a list, and stops at the first refusal.
-- Assumes nothing.
use Rattle.std.specs.Prelude.{ℕ, List, []}
use Rattle.digest.specs.declared.value.Digest.{Digest}
use Rattle.store.specs.Loops as loops
pub use Rattle.store.specs.Loops.{Go}
unfoldable pub use Rattle.store.specs.Loops.{Loop, Times}

module _ {S U : Type 0} where
  -- what is done with name number k of a list
  abbrev pub with : (Digest → Go S U) → List Digest → ℕ → Go S U
  with go ns = loops.at (record { bytes = [] }) go ns

  -- so with each name of a list
  abbrev pub Each : (Digest → Go S U) → List Digest → Go S U
  Each go ns = loops.Each (record { bytes = [] }) go ns
