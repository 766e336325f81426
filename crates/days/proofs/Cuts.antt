-- The pieces of a file, as a file of a day has them.
-- Assumes nothing.
use Rattle.std.proofs.Common.{◌≡◌, ℕ, zero, suc, ◌≤◌, List, [], ◌∷◌, length, arith, ap, refl}
use Rattle.std.specs.List.{concat}
use Rattle.cutting.specs.Rule.{pieces}
use Rattle.cutting.proofs.Keeps.{promised}
use Rattle.store.specs.State.{most_in_piece}
use Rattle.days.specs.Promise.{file_entry}
use Rattle.days.specs.Steps.{HaveRoom, entry}

pub whole : (file : List ℕ) → concat (pieces file) ≡ file
whole file = (promised file (pieces file) refl).whole

-- the entry of all pieces of a file is that of the file
pub whole_entry : (path file : List ℕ) → entry path (pieces file) ≡ file_entry path file
whole_entry path file = ap (λ (l : List ℕ). record { path = path; length = length l; pieces = (file_entry path file).pieces }) (whole file)

-- pieces that have not too many bytes
abbrev pub Fit : List (List ℕ) → Type 0
Fit ps = HaveRoom ps most_in_piece

pub fit_one : (p : List ℕ) → length p ≤ most_in_piece → Fit (p ∷ [])
fit_one p few zero h = few
fit_one p few (suc k) h = absurd (omega arith)

pub fit : (file : List ℕ) → Fit (pieces file)
fit file = (promised file (pieces file) refl).sizes.most
