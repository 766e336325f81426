use Rattle.std.proofs.Common.{◌≡◌, take}
use Rattle.commands.specs.Summaries.{bytes_in, counted, pieces_in}
use Rattle.commands.proofs.summary.Summary.of.Given as goal

abbrev pub invariant-loop-file : goal.invariant-loop-file
invariant-loop-file l = record { bytes : l.bytes ≡ counted (bytes_in (take l.file-index l.files)); pieces : l.pieces ≡ counted (pieces_in (take l.file-index l.files)) }
