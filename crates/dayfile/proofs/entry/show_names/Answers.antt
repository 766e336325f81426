use Rattle.std.proofs.Common.{◌≡◌, [], length, arith, rules, subst, take}
use Rattle.std.proofs.lemmas.List.{take_all}
use Rattle.std.proofs.lemmas.List.Elements.{All-more, recursion_from_All}
use Rattle.std.specs.List.{All}
use Rattle.digest.specs.declared.value.Digest.{Digest}
use Rattle.dayfile.proofs.entry.show_names.Goals as goal

pub loop-name-preserved : goal.loop-name-preserved
loop-name-preserved c =
    let none : Digest = record { bytes = [] } in
    All-more (λ n. length n.bytes ≡ 32) c.args.names.now c.loop-name.name-index none (omega arith) c.loop-name.invariant (search rules)

pub returns : goal.returns
returns c =
    let all : take c.loop-name.name-index c.args.names.now ≡ c.args.names.now = take_all c.loop-name.name-index c.args.names.now (omega arith) in
    recursion_from_All (λ n. length n.bytes ≡ 32) c.args.names.now (subst (All (λ n. length n.bytes ≡ 32)) all c.loop-name.invariant)
