-- What the calls of this crate answer.
-- Assumes nothing.
use Rattle.std.specs.Prelude.{◌≡◌, ℕ, ◌<◌, ◌≤◌, List, ◌∷◌, map, length, take, drop, Some, Ok, Err, vec_items, Result, Vec}
use Rattle.std.specs.Borrow.{Bor}
use Rattle.std.specs.declared.alloc.Global.{Global}
use Rattle.cutting.specs.declared.refusal.Refusal.{Refusal}
use Rattle.cutting.specs.declared.refusal.Refusal.TheVariants.{FileTooLong, NoMemory}
use Rattle.cutting.specs.Rule.{most_in_file, pieces}
use Rattle.cutting.specs.Promise.{Promise}
use Rattle.cutting.specs.Refusals.{number_of}

-- the first piece of what is left of a file has n bytes, and the pieces after it are those of what is left then
abbrev pub FirstPiece : List ℕ → ℕ → Type 0
FirstPiece rest n = pieces rest ≡ take n rest ∷ pieces (drop n rest)

-- what slices hold, one by one
abbrev pub contents : List (Bor (List ℕ)) → List (List ℕ)
contents ps = map (λ p. p.now) ps

-- a file of so many bytes is refused, by number 1
abbrev pub TooLong : ℕ → Refusal → Type 0
TooLong size r = (r ≡ FileTooLong) × (number_of r ≡ Some 1) × (most_in_file < size)

-- why a file of so many bytes is not cut: it has too many, or else, if it has any, there is no memory for its pieces
abbrev pub NotCut : ℕ → Refusal → Type 0
NotCut size FileTooLong = TooLong size FileTooLong
NotCut size NoMemory = (0 < size) × (size ≤ most_in_file)
NotCut size _ = ⊥

-- what cutting a file answers: its pieces, with all that is promised of them, or why there are none
abbrev pub Cut : List ℕ → Result (Vec (Bor (List ℕ)) Global) Refusal → Type 0
Cut file (Ok v) = (length file ≤ most_in_file) × Promise file (contents (vec_items v))
Cut file (Err r) = NotCut (length file) r
