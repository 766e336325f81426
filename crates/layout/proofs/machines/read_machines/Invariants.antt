use Rattle.std.proofs.Common.{◌≡◌, ◌+◌, ◌≤◌, ◌==◌, length}
use Rattle.std.specs.List.{slice_split}
use Rattle.layout.specs.Machines.{unread, with_lines}
use Rattle.layout.specs.Reads.{reading_of}
use Rattle.layout.proofs.LinesRead.{left_in, lines_of}
use Rattle.layout.proofs.machines.read_machines.Given as goal

abbrev pub invariant-loop-rest : goal.invariant-loop-rest
invariant-loop-rest l = (with_lines (reading_of l.found) l.number (lines_of l.rest) ≡ with_lines unread 0 (slice_split (λ c. c == 10) l.text)) × (l.number + left_in l.rest ≤ length l.text + 1)

abbrev pub decreases-loop-rest : goal.decreases-loop-rest
decreases-loop-rest l = left_in l.rest
