-- When a file may follow the files of a day.
-- Assumes nothing.
use Rattle.std.specs.Prelude.{◌≡◌, ◌≢◌, ◌⊎◌, ◌<◌, ◌≤◌, ◌-◌, List, [], ◌∷◌, ◌++◌, length, slice_get, IfSome, IsSomeAnd}
use Rattle.std.specs.declared.cmp.Ordering.TheVariants.{Less}
use Rattle.cutting.specs.declared.refusal.Refusal.{Refusal}
use Rattle.cutting.specs.declared.refusal.Refusal.TheVariants.{FileTooLong, TooManyFiles, PathNotAbove, NoMemory}
use Rattle.cutting.specs.Rule.{most_in_file}
use Rattle.dayfile.specs.Entries.{Entry}
use Rattle.dayfile.specs.Limits.{AreFiles, IsEntry, most_files, most_pieces, path_cmp}

-- a file is too long, has too many pieces, or has pieces and no bytes
abbrev pub IsLong : Entry → Type 0
IsLong e = (most_in_file < e.length) ⊎ ((most_pieces < length e.pieces) ⊎ ((e.length ≡ 0) × (e.pieces ≢ [])))

-- the last of these files, if there is one, is below this one
abbrev pub IsAbove : List Entry → Entry → Type 0
IsAbove es e = IfSome (slice_get es (length es - 1)) (λ last. path_cmp last.path e.path ≡ Less)

-- or it is not
abbrev pub IsNotAbove : List Entry → Entry → Type 0
IsNotAbove es e = IsSomeAnd (slice_get es (length es - 1)) (λ last. path_cmp last.path e.path ≢ Less)

-- why a file may not follow these: of the refusals that fit, the first in this order
abbrev pub Misfits : List Entry → Entry → Refusal → Type 0
Misfits es e FileTooLong = IsLong e
Misfits es e TooManyFiles = IsEntry e × (most_files ≤ length es)
Misfits es e PathNotAbove = IsEntry e × (length es < most_files) × IsNotAbove es e
Misfits es e other = ⊥

-- why a file is not added: it may not follow these, or it may and there is no memory for it
abbrev pub IsNotAdded : List Entry → Entry → Refusal → Type 0
IsNotAdded es e NoMemory = AreFiles (es ++ e ∷ [])
IsNotAdded es e other = Misfits es e other
