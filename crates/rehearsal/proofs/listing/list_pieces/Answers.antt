use Rattle.std.proofs.Common.{map, sym, ap, ◌∙◌, take_all}
use Rattle.std.proofs.lemmas.Result.{err_from_is_err_and}
use Rattle.std.proofs.lemmas.Simd.{map-map}
use Rattle.cutting.specs.Results.{contents}
use Rattle.rehearsal.specs.Listings.{listed}
use Rattle.rehearsal.proofs.Lists.{some_bytes}
use Rattle.rehearsal.proofs.listing.list_pieces.Goals as goal

pub returns-in_err-push : goal.returns-in_err-push
returns-in_err-push c =
    let made = c.in_ok-found.ensures in
    let rule = ap contents c.deref-piece-items.ensures.value ∙ made.1.rule in
    let some = some_bytes c.args.file.now c.deref-piece-items.result.now c.loop-piece.piece-index c.loop-piece-test.true rule in
    let passed = err_from_is_err_and c.from_residual-in_err-push.result c.from_residual-in_err-push.ensures.1 in
    rw (passed.1, passed.2) (some, made.0)

pub returns : goal.returns
returns c =
    let made = c.in_ok-found.ensures in
    let all = take_all _ _ c.loop-piece-test.false ∙ c.deref-piece-items.ensures.value in
    (made.0, c.loop-piece.invariant ∙ ap (map (λ p. listed p.now)) all ∙ sym (map-map listed (λ p. p.now) _) ∙ ap (map listed) made.1.rule)
