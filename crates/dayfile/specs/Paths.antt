-- Why there is no path.
-- Assumes nothing.
use Rattle.std.specs.Prelude.{List, ℕ}
use Rattle.cutting.specs.declared.refusal.Refusal.{Refusal}
use Rattle.cutting.specs.declared.refusal.Refusal.TheVariants.{BadPath, NoMemory}
use Rattle.dayfile.specs.Limits.{IsPath}

-- of these bytes: they are none, or they are and there is no memory for them
abbrev pub IsNoPath : List ℕ → Refusal → Type 0
IsNoPath bytes BadPath = IsPath bytes → ⊥
IsNoPath bytes NoMemory = IsPath bytes
IsNoPath bytes other = ⊥
