-- How a request to files is answered that failed, and what is counted of those that did not.
-- Assumes nothing.
use Rattle.std.specs.Prelude.{ℕ, ◌+◌, ◌-◌, ◌^◌, min, Option, Some}
use Rattle.cutting.specs.declared.refusal.Refusal.{Refusal}
use Rattle.cutting.specs.declared.refusal.Refusal.TheVariants as refusal
use Rattle.folder.specs.declared.failure.Failure.{Failure}
use Rattle.folder.specs.declared.failure.Failure.TheVariants as failure
use Rattle.folder.specs.declared.folder.Written.{Written}

-- want of memory is told as such, all else as a read or a write that failed
abbrev pub answered : Failure → Refusal
answered failure.NoMemory = refusal.NoMemory
answered (failure.File path why) = refusal.ReadOrWrite

-- and then it is remembered what failed
abbrev pub remembered : Option Failure → Failure → Option Failure
remembered before failure.NoMemory = before
remembered before (failure.File path why) = Some (failure.File path why)

-- one piece more, of so many bytes; up to the highest number there is
abbrev pub with_piece : ℕ → Written → Written
with_piece n w = record { pieces = min (w.pieces + 1) (2 ^ 64 - 1); bytes = min (w.bytes + n) (2 ^ 64 - 1) }
