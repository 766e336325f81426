-- What is done again and again, and stops at the first refusal.
-- Assumes nothing.
use Rattle.std.specs.Prelude.{◌≡◌, ℕ, zero, suc, ◌<◌, List, length, Ok, Err, Result, slice_index_or}
use Rattle.cutting.specs.declared.refusal.Refusal.{Refusal}

-- what is done at one go, with a store and with what is remembered: before it, the answer, after it
abbrev pub Go : Type 0 → Type 0 → Type 1
Go S U = S → U → Result (Unit {0}) Refusal → S → U → Type 0

module _ {S U : Type 0} where
  -- go number 0, 1, .. below n are done, one after the other
  unfoldable pub Times : (ℕ → Go S U) → ℕ → S → U → S → U → Type 0
  Times go zero s u t v = (t ≡ s) × (v ≡ u)
  Times go (suc n) s u t v = (m : S) × (w : U) × Times go n s u m w × go n m w (Ok tt) t v

  -- all below n are done, or one of them is not, and no more after it
  unfoldable pub Loop : (ℕ → Go S U) → ℕ → Go S U
  Loop go n s u (Ok x) t v = Times go n s u t v
  Loop go n s u (Err r) t v = (k : ℕ) × (k < n) × (m : S) × (w : U) × Times go k s u m w × go k m w (Err r) t v

  -- what is done with element number k of a list; none stands for what it does not have
  abbrev pub at : {X : Type 0} → X → (X → Go S U) → List X → ℕ → Go S U
  at none go xs k = go (slice_index_or xs k none)

  -- so with each element
  abbrev pub Each : {X : Type 0} → X → (X → Go S U) → List X → Go S U
  Each none go xs s u a t v = Loop (at none go xs) (length xs) s u a t v
