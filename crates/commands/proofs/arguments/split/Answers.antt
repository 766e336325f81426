use Rattle.std.proofs.Common.{◌≡◌, Bool, Bor, List, ℕ, rules, tests, sym, ◌∙◌}
use Rattle.std.proofs.lemmas.Iterator.{YieldsList-from_slice}
use Rattle.std.proofs.lemmas.Iterator.Search.{position_from_yields_List}
use Rattle.std.specs.List.{position}
use Rattle.commands.specs.Arguments.{dashes}
use Rattle.commands.proofs.Splitting.{no_parts, parts_at}
use Rattle.commands.proofs.arguments.split.Goals as goal

abbrev ends : Bor (List ℕ) → Bool
ends w = dashes w.now

pub returns-in-Some : goal.returns-in-Some
returns-in-Some c =
    let e : c.position.result ≡ position ends c.args.words.now = position_from_yields_List ends _ _ c.position.result c.position.ensures.ran (YieldsList-from_slice c.args.words.now cc) (λ x b q k. search (rules, tests)) in
    let parts = parts_at ends c.args.words.now c.in-Some.end (sym e ∙ c.in-Some.is) in
    record { front = parts.0; behind = parts.1 }

pub returns-in-None : goal.returns-in-None
returns-in-None c =
    let e : c.position.result ≡ position ends c.args.words.now = position_from_yields_List ends _ _ c.position.result c.position.ensures.ran (YieldsList-from_slice c.args.words.now cc) (λ x b q k. search (rules, tests)) in
    let parts = no_parts ends c.args.words.now (sym e ∙ c.in-None.is) in
    record { front = parts.0; behind = parts.1 }
