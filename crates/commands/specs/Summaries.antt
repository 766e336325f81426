-- How much a day has.
-- Assumes nothing.
use Rattle.std.specs.Prelude.{ℕ, ◌-◌, ◌^◌, List, length, min, sum_by, vec_len}
use Rattle.dayfile.specs.declared.entry.FileEntry.{FileEntry}
use Rattle.commands.specs.declared.summary.Summary.{Summary}

-- a count, or the highest there is
abbrev pub counted : ℕ → ℕ
counted n = min n (2 ^ 64 - 1)

-- how many bytes these files have, and how many pieces
abbrev pub bytes_in : List FileEntry → ℕ
bytes_in fs = sum_by (λ f. f.length) fs

abbrev pub pieces_in : List FileEntry → ℕ
pieces_in fs = sum_by (λ f. vec_len f.pieces) fs

abbrev pub summary_of : List FileEntry → Summary
summary_of fs = record { files = length fs; bytes = counted (bytes_in fs); pieces = counted (pieces_in fs) }
