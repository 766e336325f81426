-- The pieces of a file as an answer lists them.
-- Assumes nothing.
use Rattle.std.specs.Prelude.{◌≡◌, ℕ, ◌≤◌, List, ◌∷◌, ◌++◌, length, map, Ok, Err, vec_items, codes, decimal, Result, Vec}
use Rattle.std.specs.List.{flat_map}
use Rattle.std.specs.declared.alloc.Global.{Global}
use Rattle.cutting.specs.declared.refusal.Refusal.{Refusal}
use Rattle.cutting.specs.Results.{NotCut}
use Rattle.cutting.specs.Rule.{most_in_file, pieces}
use Rattle.digest.specs.Digests.{digest_of}
use Rattle.digest.specs.Hex.{hex}
use Rattle.rehearsal.specs.declared.listing.Listed.{Listed}

-- a piece by its length and its digest
abbrev pub listed : List ℕ → Listed
listed p = record { length = length p; name = digest_of p }

-- what cutting a file answers: the list of its pieces, in order, or why there is none
abbrev pub Lists : List ℕ → Result (Vec Listed Global) Refusal → Type 0
Lists file (Ok v) = (length file ≤ most_in_file) × (vec_items v ≡ map listed (pieces file))
Lists file (Err r) = NotCut (length file) r

-- a piece in words
abbrev pub listed_text : Listed → List ℕ
listed_text p = decimal p.length ++ (codes " " ++ hex p.name.bytes)

-- a line for each piece, after what is there
abbrev pub lines_text : List Listed → List ℕ
lines_text ps = flat_map (λ p. 10 ∷ listed_text p) ps
