-- What is promised of the pieces of a file.
-- Assumes nothing.
use Rattle.std.specs.Prelude.{◌≡◌, ℕ, ◌+◌, ◌<◌, ◌≤◌, List, [], ◌++◌, length, slice_index_or}
use Rattle.std.specs.List.{concat}
use Rattle.cutting.specs.Rule.{least_in_piece, most_in_piece, pieces}

-- how many bytes pieces have: from 1 to 65,536, and all but the last of them 2,048 or more
pub record Sizes (ps : List (List ℕ)) : Type 0 where
  pub some : (i : ℕ) → i < length ps → 1 ≤ length (slice_index_or ps i [])
  pub most : (i : ℕ) → i < length ps → length (slice_index_or ps i []) ≤ most_in_piece
  pub least : (i : ℕ) → i + 1 < length ps → least_in_piece ≤ length (slice_index_or ps i [])

-- of the pieces ps of a file, one ends after its first n bytes (or n is 0), and those from there on are others
pub record From (n : ℕ) (ps others : List (List ℕ)) : Type 0 where
  pub firsts : List (List ℕ)
  pub all : ps ≡ firsts ++ others
  pub here : length (concat firsts) ≡ n

-- what the pieces ps of a file are
pub record Promise (file : List ℕ) (ps : List (List ℕ)) : Type 0 where
  -- those that the rule gives, in their order
  pub rule : ps ≡ pieces file
  -- joined, all of the file, and nothing else
  pub whole : concat ps ≡ file
  -- neither too short nor too long
  pub sizes : Sizes ps
  -- Falling back into step. Where another file ends in the same stretch, and in both a piece ends at the same place of that stretch, after its first k bytes,
  -- the pieces of both are the same from there on. The place need not lie 32 bytes inside of the stretch: unless the file ends, no piece ends before it has
  -- 2,048 bytes, and by then nothing of what stands before the piece is in the number.
  pub in_step : (front stretch other : List ℕ) (k : ℕ) (mine theirs : List (List ℕ)) → file ≡ front ++ stretch → From (length front + k) ps mine → From (length other + k) (pieces (other ++ stretch)) theirs → mine ≡ theirs
  -- Before a change. Where another file begins with the same stretch, the pieces of this one that end in the stretch, and not at the end of this file, are
  -- pieces of the other, too.
  pub same_begin : (stretch end other : List ℕ) (firsts others : List (List ℕ)) → file ≡ stretch ++ end → ps ≡ firsts ++ others → length (concat firsts) ≤ length stretch → length (concat firsts) < length file → (theirs : List (List ℕ)) × (pieces (stretch ++ other) ≡ firsts ++ theirs)
