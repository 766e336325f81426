use Rattle.std.proofs.Common.{take}
use Rattle.rehearsal.specs.Shows.{ShowsKept}
use Rattle.rehearsal.proofs.world.kept_days.Given as goal

abbrev pub invariant-loop-day : goal.invariant-loop-day
invariant-loop-day l = ShowsKept (take l.day-index l.days) l.shown.items
