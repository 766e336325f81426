use Rattle.std.proofs.Common.{◌≡◌, ◌-◌}
use Rattle.dayfile.specs.Days.{files_of}
use Rattle.dayfile.specs.Reading.{entry_at, many_at}
use Rattle.dayfile.proofs.Loop.{with_front}
use Rattle.dayfile.proofs.reading.files_in.Given as goal

abbrev pub invariant-loop : goal.invariant-loop
invariant-loop l = with_front entry_at (files_of l.day) (many_at entry_at (l.count - l.counter) l.rest) ≡ many_at entry_at l.count l.bytes
