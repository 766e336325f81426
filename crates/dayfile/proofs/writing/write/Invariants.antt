use Rattle.std.proofs.Common.{◌≡◌, ◌++◌, take, map}
use Rattle.std.specs.List.{flat_map}
use Rattle.dayfile.specs.Files.{entry_of}
use Rattle.dayfile.specs.Form.{entry_bytes}
use Rattle.dayfile.proofs.writing.write.Given as goal

abbrev pub invariant-loop-file : goal.invariant-loop-file
invariant-loop-file l = l.out.items ≡ l.initial.out.items ++ flat_map entry_bytes (map entry_of (take l.file-index l.day.files.items))
