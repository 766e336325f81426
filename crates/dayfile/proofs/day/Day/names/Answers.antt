use Rattle.std.proofs.Common.{◌≡◌, take, ap, arith, ◌∙◌}
use Rattle.std.proofs.lemmas.List.{take_all}
use Rattle.std.specs.List.{flat_map}
use Rattle.dayfile.specs.declared.entry.FileEntry.{FileEntry}
use Rattle.dayfile.proofs.Names.{names_are}
use Rattle.dayfile.proofs.day.Day.names.Goals as goal

pub returns : goal.returns
returns c =
    let files = c.args.self.now.files.items in
    let all : take c.loop-file.file-index files ≡ files = take_all c.loop-file.file-index files (omega (arith, c.deref-file-items.ensures.len)) in
    c.loop-file.invariant ∙ ap (flat_map (λ (f : FileEntry). f.pieces.items)) all ∙ names_are files
