use Rattle.std.proofs.Common.{ap, ◌∙◌}
use Rattle.std.proofs.lemmas.List.{take_all}
use Rattle.std.specs.List.{flat_map}
use Rattle.dayfile.specs.declared.entry.FileEntry.{FileEntry}
use Rattle.dayfile.proofs.Names.{names_are}
use Rattle.rehearsal.proofs.world.names.Goals as goal

pub returns : goal.returns
returns c =
    let files = c.args.files.now in
    c.loop-file.invariant ∙ ap (flat_map (λ (f : FileEntry). f.pieces.items)) (take_all c.loop-file.file-index files c.loop-file-test.false) ∙ names_are files
