-- Where the pieces of a file end: the rule of docs/CUTTING.md, word by word. A byte is a number below 256, a file a list of bytes.
-- Assumes nothing.
use Rattle.std.specs.Prelude.{ℕ, ◌+◌, ◌*◌, ◌/◌, ◌%◌, ◌^◌, Bool, cond, ◌&&◌, ◌||◌, List, [], ◌∷◌, ◌++◌, length, fold, ◌==◌, nat_le}

-- a file has at most so many bytes: 16 MiB
abbrev pub most_in_file : ℕ
most_in_file = 16777216

-- a piece has at most so many bytes
abbrev pub most_in_piece : ℕ
most_in_piece = 65536

-- a piece has at least so many bytes, unless the file ends with it
abbrev pub least_in_piece : ℕ
least_in_piece = 2048

-- the number after the byte b, where it is n before it
abbrev pub next : ℕ → ℕ → ℕ
next n b = (n * 2 + b * 2654435761) % 2 ^ 32

-- the number after these bytes, where it is 0 before them
abbrev pub number_after_all : List ℕ → ℕ
number_after_all bytes = fold next 0 bytes

-- does a piece end with the byte with which it has so many bytes and after which the number is n, if more bytes follow in the file?
-- The highest 13 bits of 32 are those from bit 19 on.
abbrev pub ends : ℕ → ℕ → Bool
ends size n = nat_le most_in_piece size || (nat_le least_in_piece size && n / 2 ^ 19 == 0)

-- at the end of the file: the piece so far is the last one, unless it has no bytes
unfoldable pub ended : List ℕ → List (List ℕ)
ended [] = []
ended (b ∷ bs) = (b ∷ bs) ∷ []

-- the pieces from here on, where the number is n, the piece so far has the bytes before, and those of the file that are left follow
unfoldable pub cut_from : ℕ → List ℕ → List ℕ → List (List ℕ)
cut_from n before [] = ended before
cut_from n before (b ∷ bs) =
    cond (ends (length before + 1) (next n b))
    ((before ++ (b ∷ [])) ∷ cut_from (next n b) [] bs)
    (cut_from (next n b) (before ++ (b ∷ [])) bs)

-- the pieces of a file
abbrev pub pieces : List ℕ → List (List ℕ)
pieces file = cut_from 0 [] file
