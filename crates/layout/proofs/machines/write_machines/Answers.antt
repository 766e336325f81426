use Rattle.std.proofs.Common.{◌≡◌, ℕ, ◌+◌, List, [], ◌∷◌, ◌++◌, get_or, take, sym, ap, ◌∙◌, append_assoc}
use Rattle.std.proofs.lemmas.List.{flat_map_more, take_all, take_more}
use Rattle.std.specs.Prelude.{decimal}
use Rattle.layout.specs.Machines.{comment, last_line, machines_in, machines_text}
use Rattle.layout.proofs.Written.{lines, reads_back}
use Rattle.layout.proofs.machines.write_machines.Goals as goal

pub loop-machine-preserved : goal.loop-machine-preserved
loop-machine-preserved c =
    let ms = c.args.machines.now in
    let i = c.loop-machine.machine-index in
    let start = c.in_ok-text.text.items in
    let line : List ℕ = decimal (get_or ms i 0) ++ 10 ∷ [] in
    let digits : c.as_bytes.result.now ≡ line = c.as_bytes.ensures.value ∙ c.in_ok-digits.ensures.ok in
    let more : take (i + 1) ms ≡ take i ms ++ get_or ms i 0 ∷ [] = take_more ms i 0 c.loop-machine-test.true in
    c.in_ok-extend_from_slice.ensures.items ∙ (λ j. c.loop-machine.invariant j ++ digits j)
    ∙ flat_map_more (λ m. decimal m ++ 10 ∷ []) start (take i ms) (get_or ms i 0) ∙ ap (λ (l : List ℕ). start ++ lines l) (sym more)

pub returns-clause-back : goal.returns-clause-back
returns-clause-back c = λ are.
    let ms = c.args.machines.now in
    let start = c.in_ok-text.text.items in
    let all : take c.loop-machine.machine-index ms ≡ ms = take_all c.loop-machine.machine-index ms c.loop-machine-test.false in
    let body : c.loop-machine.text.items ≡ comment ++ lines ms = c.loop-machine.invariant ∙ ap (λ (l : List ℕ). start ++ lines l) all ∙ ap (λ (s : List ℕ). s ++ lines ms) c.in_ok-text.ensures.items in
    let text : c.extend_from_slice-2.new.self.items ≡ machines_text ms = c.in_ok-extend_from_slice-2.ensures.items ∙ ap (λ (l : List ℕ). l ++ last_line) body ∙ append_assoc comment (lines ms) last_line in
    ap machines_in text ∙ reads_back ms are
