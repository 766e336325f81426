use Rattle.std.proofs.Common.{◌≡◌, ℕ, ◌-◌, not, length, take, drop, Some, Option, unwrap_or, sym, ap, ◌∙◌, rules, tests}
use Rattle.std.specs.List.{position, position_or_len}
use Rattle.std.proofs.lemmas.Iterator.{YieldsList-from_slice}
use Rattle.std.proofs.lemmas.Iterator.Search.{position_from_yields_List}
use Rattle.script.specs.Lines.{blank, trimmed, first, rest}
use Rattle.script.proofs.Blanks.{begins, from_on, ends, first_none, first_some}
use Rattle.script.proofs.scan.next_word.Goals as goal

pub returns-in_err-start : goal.returns-in_err-start
returns-in_err-start c =
    let found : c.position.result ≡ position (λ b. not (blank b)) c.args.line.now = position_from_yields_List (λ b. not (blank b)) _ _ c.position.result c.position.ensures.ran (YieldsList-from_slice c.args.line.now cc) (λ x b q k. search (rules, tests)) in
    rw c.from_residual.ensures (first_none c.args.line.now (sym found ∙ c.in_err-start.was))

pub returns : goal.returns
unfolding first rest
returns c =
    let line = c.args.line.now in
    let start : c.position.result ≡ position (λ b. not (blank b)) line = position_from_yields_List (λ b. not (blank b)) _ _ c.position.result c.position.ensures.ran (YieldsList-from_slice c.args.line.now cc) (λ x b q k. search (rules, tests)) in
    let at : position (λ b. not (blank b)) line ≡ Some c.in_ok-start.start = sym start ∙ c.in_ok-start.was in
    let from = take (length line - c.in_ok-start.start) (drop c.in_ok-start.start line) in
    let here : from ≡ trimmed line = from_on line c.in_ok-start.start ∙ begins line c.in_ok-start.start at in
    let end : c.position-2.result ≡ position blank from = position_from_yields_List blank _ _ c.position-2.result c.position-2.ensures.ran (YieldsList-from_slice from cc) (λ x b q k. search (rules, tests)) in
    let size : c.unwrap_or-end.result ≡ position_or_len blank (trimmed line) = c.unwrap_or-end.ensures ∙ ap (λ (o : Option ℕ). unwrap_or o (length from)) end ∙ ends from ∙ ap (position_or_len blank) here in
    let front : c.split_at.result.0.now ≡ first line = c.split_at.ensures.front ∙ (λ i. take (size i) (here i)) in
    (front, c.split_at.ensures.back ∙ (λ i. drop (size i) (here i)), rw front (first_some line c.in_ok-start.start at))
