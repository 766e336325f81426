-- The file of what the sweeper does.
-- Assumes nothing.
use Rattle.std.specs.Prelude.{◌≡◌, ⊤, ℕ, ◌^◌, ◌<◌, List, [], ◌∷◌, length, slice_index}
use Rattle.std.specs.Int.{w32, to_be_bytes}
use Rattle.std.specs.List.{flat_map}
use Rattle.store.specs.declared.sweep.Sweep.{Sweep}
use Rattle.store.specs.declared.sweep.Sweep.TheVariants.{Rests, Waits, Ends}
use Rattle.layout.specs.Signed.{signed}

-- 0: it rests; 1: it waits, and the numbers that it noted follow, four bytes each, the high one first; 2: it ends
abbrev pub sweep_body : Sweep → List ℕ
sweep_body Rests = 0 ∷ []
sweep_body (Waits noted) = 1 ∷ flat_map (to_be_bytes w32) noted.highest
sweep_body Ends = 2 ∷ []

-- and the digest of that
abbrev pub sweep_bytes : Sweep → List ℕ
sweep_bytes s = signed (sweep_body s)

-- what every value has in a running program: 64 numbers, of four bytes each
abbrev pub IsSweep : Sweep → Type 0
IsSweep (Waits noted) = (length noted.highest ≡ 64) × ((i : ℕ) → slice_index noted.highest i < 2 ^ 32)
IsSweep other = ⊤
