use Rattle.std.proofs.Common.{sym, ap}
use Rattle.std.proofs.Output.{has_written_of_eq}
use Rattle.script.specs.Faults.{fault_text}
use Rattle.script.proofs.fault.FaultDisplay.fmt.Goals as goal

pub returns-in-NoHexDigit-clause-writes : goal.returns-in-NoHexDigit-clause-writes
returns-in-NoHexDigit-clause-writes g c = λ p ok. has_written_of_eq g.W.Write.write_str_gives _ _ _ _ (ap fault_text (sym c.in-NoHexDigit.is)) (c.write-in-NoHexDigit.ensures.writes p ok)
