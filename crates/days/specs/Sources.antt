-- Where the files of a day come from.
-- Assumes nothing.
use Rattle.std.specs.Prelude.{◌≡◌, ℕ, List, [], ◌∷◌, Some, None, Ok, Err, Option, Result, vec_items}
use Rattle.std.specs.Option.{option_map}
use Rattle.cutting.specs.declared.refusal.Refusal.{Refusal}
use Rattle.days.specs.declared.source.GivenFile.{GivenFile}

-- the path and the bytes of a file
abbrev pub file_of : GivenFile → List ℕ × List ℕ
file_of f = (vec_items f.path, vec_items f.bytes)

-- the file that is given, or none, or why none can be read
abbrev pub given : Result (Option GivenFile) Refusal → Result (Option (List ℕ × List ℕ)) Refusal
given (Ok f) = Ok (option_map file_of f)
given (Err r) = Err r

-- what a source does: from one state it gives an answer, and leaves another state
abbrev pub Giving : Type 0 → Type 1
Giving F = F → Result (Option (List ℕ × List ℕ)) Refusal → F → Type 0

-- of files that are left the first is given, and the others are left then; or none is left
abbrev pub TakesFirst : List (List ℕ × List ℕ) → Result (Option (List ℕ × List ℕ)) Refusal → List (List ℕ × List ℕ) → Type 0
TakesFirst old (Ok (Some f)) new = old ≡ f ∷ new
TakesFirst old (Ok None) new = (old ≡ []) × (new ≡ [])
TakesFirst old (Err r) new = ⊥
