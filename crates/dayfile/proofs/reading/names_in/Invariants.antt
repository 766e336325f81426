use Rattle.std.proofs.Common.{◌≡◌, ◌-◌}
use Rattle.dayfile.specs.Reading.{many_at, name_at}
use Rattle.dayfile.proofs.Loop.{with_front}
use Rattle.dayfile.proofs.reading.names_in.Given as goal

abbrev pub invariant-loop : goal.invariant-loop
invariant-loop l = with_front name_at l.names.items (many_at name_at (l.count - l.counter) l.rest) ≡ many_at name_at l.count l.bytes
