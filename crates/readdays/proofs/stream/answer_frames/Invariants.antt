use Rattle.std.proofs.Common.{◌≡◌, ℕ, List, ◌++◌, length}
use Rattle.std.specs.List.{flat_map}
use Rattle.readdays.specs.Frames.{frame_bytes}
use Rattle.readdays.proofs.stream.answer_frames.Given as goal

abbrev pub invariant-loop-frame : goal.invariant-loop-frame
invariant-loop-frame g l = (fs : List (List ℕ)) × (l.bytes ≡ flat_map frame_bytes fs ++ l.rest)

abbrev pub decreases-loop-frame : goal.decreases-loop-frame
decreases-loop-frame g l = length l.rest
