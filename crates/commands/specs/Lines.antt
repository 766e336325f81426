-- The list of a day.
-- Assumes nothing.
use Rattle.std.specs.Prelude.{◌≡◌, ◌≢◌, ◌⊎◌, ℕ, ◌+◌, ◌-◌, ◌==◌, ◌<◌, ◌≤◌, cond, List, [], ◌∷◌, ◌++◌, length, take, drop, map, codes, nat_eq, slice_get, slice_index_or, IfSome, IsSomeAnd, Ok, Err, Result}
use Rattle.std.specs.Cmp.Lexicographic.{pointwise, slice_cmp}
use Rattle.std.specs.List.{onto_first}
use Rattle.std.specs.Ordering.{nat_cmp}
use Rattle.std.specs.Str.{IsUtf8}
use Rattle.std.specs.declared.cmp.Ordering.TheVariants.{Less}
use Rattle.commands.specs.declared.list_file.BadLine.{BadLine}
use Rattle.commands.specs.declared.list_file.LineFault.{LineFault}
use Rattle.commands.specs.declared.list_file.LineFault.TheVariants.{BadPath, TooManyFiles, NotAbove, NoText, NoMemory}

-- the path in a line: what follows the `./` that may stand there
abbrev pub path_of : List ℕ → List ℕ
path_of l = cond (pointwise nat_eq (take 2 l) (codes "./")) (drop 2 l) l

-- the last of these paths, if there is one, is below this one, byte by byte
abbrev pub IsAbove : List (List ℕ) → List ℕ → Type 0
IsAbove ps p = IfSome (slice_get ps (length ps - 1)) (λ last. slice_cmp nat_cmp last p ≡ Less)

-- or it is not
abbrev pub IsNotAbove : List (List ℕ) → List ℕ → Type 0
IsNotAbove ps p = IsSomeAnd (slice_get ps (length ps - 1)) (λ last. slice_cmp nat_cmp last p ≢ Less)

abbrev pub IsPath : List ℕ → Type 0
IsPath p = (0 < length p) × (length p ≤ 255)

-- a path may follow these
abbrev pub Fits : List (List ℕ) → List ℕ → Type 0
Fits ps p = IsPath p × (length ps < 4096) × IsAbove ps p × IsUtf8 p

-- why it may not: of the faults that fit, the first in this order
abbrev pub Misfits : List (List ℕ) → List ℕ → LineFault → Type 0
Misfits ps p BadPath = IsPath p → ⊥
Misfits ps p TooManyFiles = IsPath p × (4096 ≤ length ps)
Misfits ps p NotAbove = IsPath p × (length ps < 4096) × IsNotAbove ps p
Misfits ps p NoText = IsPath p × (length ps < 4096) × IsAbove ps p × (IsUtf8 p → ⊥)
Misfits ps p NoMemory = ⊥

-- the lines of a list: a newline ends one, and the last one may stand without it
unfoldable pub lines_in : List ℕ → List (List ℕ)
lines_in [] = []
lines_in (c ∷ cs) = cond (c == 10) ([] ∷ lines_in cs) (onto_first c (lines_in cs))

-- the paths in them
abbrev pub paths_of : List ℕ → List (List ℕ)
paths_of text = map path_of (lines_in text)

-- each of these may follow those before it
abbrev pub InOrder : List (List ℕ) → Type 0
InOrder ps = (k : ℕ) → k < length ps → Fits (take k ps) (slice_index_or ps k [])

-- it is the first line whose path may not follow those before it, and this is why; or there is no memory for it
abbrev pub IsBad : List (List ℕ) → ℕ → LineFault → Type 0
IsBad ps n f = (n < length ps) × InOrder (take n ps) × ((f ≡ NoMemory) ⊎ Misfits (take n ps) (slice_index_or ps n []) f)

-- the line of this number is bad, counted from 1
abbrev pub StopsAt : List (List ℕ) → BadLine → Type 0
StopsAt ps b = (n : ℕ) × (b.line ≡ n + 1) × IsBad ps n b.fault

-- a path is taken behind these; or it may not follow them, and this is why, or there is no memory for it
abbrev pub Adds : List (List ℕ) → List ℕ → Result Unit LineFault → List (List ℕ) → Type 0
Adds ps p (Ok u) qs = Fits ps p × (qs ≡ ps ++ p ∷ [])
Adds ps p (Err f) qs = (f ≡ NoMemory) ⊎ Misfits ps p f
