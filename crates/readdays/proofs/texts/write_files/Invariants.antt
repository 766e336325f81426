use Rattle.std.proofs.Common.{map, take}
use Rattle.std.specs.Fmt.{HasWritten, IsPlainFormatter}
use Rattle.std.specs.List.{flat_map}
use Rattle.dayfile.specs.Files.{entry_of}
use Rattle.readdays.specs.Texts.{file_text}
use Rattle.readdays.proofs.texts.write_files.Given as goal

abbrev pub invariant-loop-file : goal.invariant-loop-file
invariant-loop-file g l = IsPlainFormatter l.initial.f → HasWritten g.W.Write.write_str_gives l.initial.f (flat_map file_text (map entry_of (take l.file-index l.files))) l.f
