-- Damage to what lies in a store.
-- Assumes nothing.
use Rattle.std.specs.Prelude.{◌≡◌, ℕ, ◌-◌, ◌<◌, ◌≤◌, List, length, Ok, Err, Some, Option, IfSome, Result, slice_get, slice_set}
use Rattle.std.specs.Option.{unwrap_or}
use Rattle.cutting.specs.declared.refusal.Refusal.{Refusal}
use Rattle.cutting.specs.declared.refusal.Refusal.TheVariants.{Unknown}

-- with each bit of byte number at turned round
abbrev pub flipped : ℕ → List ℕ → List ℕ
flipped at bytes = slice_set bytes at (255 - unwrap_or (slice_get bytes at) 0)

-- so is done to bytes; or there is no byte of that number
abbrev pub Flips : ℕ → List ℕ → Result (Unit {0}) Refusal → List ℕ → Type 0
Flips at old (Ok x) new = (at < length old) × (new ≡ flipped at old)
Flips at old (Err r) new = (r ≡ Unknown) × (length old ≤ at) × (new ≡ old)

-- What lies somewhere is damaged: it has at least so many bytes, and what harm makes of it is put in its stead. Or nothing lies there, or less, and nothing is done.
abbrev pub Damages : {S : Type 0} → (old : Option (List ℕ)) → (least : ℕ) → (List ℕ → List ℕ) → (Option (List ℕ) → S → S) → S → Result (Unit {0}) Refusal → S → Type 0
Damages old least harm put s (Ok x) t = (b : List ℕ) × (old ≡ Some b) × (least ≤ length b) × (t ≡ put (Some (harm b)) s)
Damages old least harm put s (Err r) t = (r ≡ Unknown) × IfSome old (λ b. length b < least) × (t ≡ s)
