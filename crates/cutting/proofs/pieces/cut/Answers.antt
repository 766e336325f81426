use Rattle.std.proofs.Common.{◌≡◌, List, ℕ, ◌≤◌, ◌++◌, vec_items, length, sym, ap, ◌∙◌, subst, append-nil}
use Rattle.cutting.specs.Rule.{most_in_file, cut_from, ended, pieces}
use Rattle.cutting.specs.Results.{contents}
use Rattle.cutting.proofs.Keeps.{promised}
use Rattle.cutting.proofs.pieces.cut.Goals as goal

pub returns : goal.returns
unfolding cut_from ended
returns c =
    let found = contents (vec_items c.loop-piece.found) in
    let all : pieces c.args.file.now ≡ found = c.loop-piece.invariant ∙ ap (λ (l : List ℕ). found ++ pieces l) c.in-None.ensures.steps.0 ∙ append-nil found in
    let few = subst (λ (l : List ℕ). length l ≤ most_in_file) c.in_ok-piece-items.ensures c.in_ok-piece-items.piece-items.short in
    (few, promised c.args.file.now found (sym all))
