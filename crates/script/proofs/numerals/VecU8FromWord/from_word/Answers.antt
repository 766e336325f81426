use Rattle.std.proofs.Common.{ℕ, ◌+◌, ◌-◌, ◌*◌, List, get_or, length, sym, refl, ap, ◌∙◌, not-suc-le-zero, arith}
use Rattle.std.proofs.lemmas.Slice.{pushed}
use Rattle.script.specs.Numbers.{hex_value, paired}
use Rattle.script.proofs.Reading.{digits_more, digits_at, pair_at, last_at, hex_exit, paired_more}
use Rattle.script.proofs.numerals.VecU8FromWord.from_word.Goals as goal

pub loop-i-init : goal.loop-i-init
unfolding paired
loop-i-init c = (λ k h. absurd (not-suc-le-zero h), c.in_ok-bytes.ensures.items)

pub returns-in_err-high : goal.returns-in_err-high
returns-in_err-high c =
    let w = c.args.word.now in
    let i = c.loop-i.i in
    let pair = pair_at w _ i c.as_chunks.ensures.front (omega arith) in
    hex_exit w (2 * i) _ _ _ _ (omega arith) c.loop-i.invariant.0 (ap (λ (l : List ℕ). get_or l 0 0) pair) refl c.in_err-high.ensures c.from_residual-in_err-high.ensures.1

pub returns-in_err-low : goal.returns-in_err-low
returns-in_err-low c =
    let w = c.args.word.now in
    let i = c.loop-i.i in
    let pair = pair_at w _ i c.as_chunks.ensures.front (omega arith) in
    let high = sym (ap (λ (l : List ℕ). hex_value (get_or l 0 0)) pair) ∙ c.in_ok-high.ensures.1 in
    hex_exit w (2 * i + 1) _ _ _ _ (omega arith) (digits_more w (2 * i) _ c.loop-i.invariant.0 high) (ap (λ (l : List ℕ). get_or l 1 0) pair) (omega arith) c.in_err-low.ensures
    c.from_residual-in_err-low.ensures.1

pub loop-i-preserved : goal.loop-i-preserved
loop-i-preserved c =
    let w = c.args.word.now in
    let i = c.loop-i.i in
    let pair = pair_at w _ i c.as_chunks.ensures.front (omega arith) in
    let high = sym (ap (λ (l : List ℕ). hex_value (get_or l 0 0)) pair) ∙ c.in_ok-high.ensures.1 in
    let low = sym (ap (λ (l : List ℕ). hex_value (get_or l 1 0)) pair) ∙ c.in_ok-low.ensures.1 in
    let both = digits_more w (2 * i + 1) _ (digits_more w (2 * i) _ c.loop-i.invariant.0 high) low in (
      digits_at w (2 * i + 1 + 1) (2 * (i + 1)) (omega arith) both,
      pushed _ c.loop-i.invariant.1 c.in_ok-push.was c.push.ensures.items ∙ sym (paired_more w i _ _ (omega arith) high low),
    )

pub returns-in_err-read_digit : goal.returns-in_err-read_digit
returns-in_err-read_digit c =
    let w = c.args.word.now in
    let there = c.in-Some.ensures.item.3 in
    let some = there.0 in
    let all = digits_at w (2 * c.loop-i.i) (length w - 1) (omega (arith, some)) c.loop-i.invariant.0 in
    let digit = there.1 0 ∙ last_at w _ c.as_chunks.ensures.back (omega (arith, some)) in
    hex_exit w (length w - 1) _ _ _ _ (omega (arith, some)) all digit (omega (arith, some)) c.in_err-read_digit.ensures c.from_residual-in_err-read_digit.ensures.1

pub returns-in-Some : goal.returns-in-Some
returns-in-Some c =
    let w = c.args.word.now in
    let there = c.in-Some.ensures.item.3 in
    let some = there.0 in
    let all = digits_at w (2 * c.loop-i.i) (length w - 1) (omega (arith, some)) c.loop-i.invariant.0 in
    let digit = sym (ap hex_value (there.1 0 ∙ last_at w _ c.as_chunks.ensures.back (omega (arith, some)))) ∙ c.in_ok-read_digit.ensures.1 in
    (digits_at w (length w - 1 + 1) (length w) (omega (arith, some)) (digits_more w (length w - 1) _ all digit), omega (arith, some), refl)
