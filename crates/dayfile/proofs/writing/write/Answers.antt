use Rattle.std.proofs.Common.{◌≡◌, ◌≤◌, ◌+◌, ◌∷◌, ◌++◌, [], get_or, length, arith, take, map, ◌∙◌, sym, ap, subst}
use Rattle.std.proofs.lemmas.List.{flat_map_more, map_more}
use Rattle.std.specs.List.{flat_map}
use Rattle.dayfile.specs.Files.{entry_of}
use Rattle.dayfile.specs.Form.{entry_bytes}
use Rattle.dayfile.specs.Limits.{most_pieces}
use Rattle.dayfile.proofs.Rising.{is_entry}
use Rattle.dayfile.proofs.writing.write.Goals as goal

pub write_entry-requires : goal.write_entry-requires
write_entry-requires c =
    let fs = c.args.day.now.files.items in
    let i = c.loop-file.file-index in
    let file = c.file-item.result in
    let is : file ≡ get_or fs i file = subst (λ xs. file ≡ get_or xs i file) c.deref-file-items.ensures.value c.file-item.is in
    subst (λ f. length f.pieces.items ≤ most_pieces) (sym is) (is_entry fs i file c.args.day.now.fits (omega (arith, c.deref-file-items.ensures.len))).count

pub loop-file-preserved : goal.loop-file-preserved
loop-file-preserved c =
    let fs = c.args.day.now.files.items in
    let i = c.loop-file.file-index in
    let before = c.extend_from_slice-2.new.self.items in
    let file = c.file-item.result in
    let is : file ≡ get_or fs i file = subst (λ xs. file ≡ get_or xs i file) c.deref-file-items.ensures.value c.file-item.is in
    let wrote : c.write_entry.new.out.items ≡ c.loop-file.out.items ++ entry_bytes (entry_of file) = c.in_ok-write_entry.ensures in
    let more : map entry_of (take (i + 1) fs) ≡ map entry_of (take i fs) ++ entry_of file ∷ [] = map_more entry_of fs i file (omega (arith, c.deref-file-items.ensures.len)) ∙ ap (λ f. map entry_of (take i fs) ++ entry_of f ∷ []) (sym is) in
    wrote ∙ ap (λ o. o ++ entry_bytes (entry_of file)) c.loop-file.invariant ∙ flat_map_more entry_bytes before (map entry_of (take i fs)) (entry_of file) ∙ ap (λ es. before ++ flat_map entry_bytes es) (sym more)
