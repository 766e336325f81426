use Rattle.std.proofs.Common.{◌≡◌, ◌/◌, true, false, ℕ, List, [], Some, get_or, length, ap, ◌∙◌, arith, rules}
use Rattle.std.specs.Int.{w32, from_be_bytes}
use Rattle.std.specs.Simd.{first_chunks}
use Rattle.layout.proofs.Noting.{AreRead, length-numbers, numbers_again, numbers_of_bytes}
use Rattle.layout.proofs.sweeps.noted_in.Goals as goal

pub returns-in_default-clause-back : goal.returns-in_default-clause-back
returns-in_default-clause-back c = λ n is e. absurd (omega (arith, length-numbers n.highest, ap length e, c.as_chunks.ensures.back_len, c.in_default.len_at_least, is.0))

pub returns-in_err-numbers-clause-back : goal.returns-in_err-numbers-clause-back
returns-in_err-numbers-clause-back c = λ n is e.
    let no : false ≡ true = c.in_err-numbers.ensures.variant.1 (omega (arith, length-numbers n.highest, ap length e, c.as_chunks.ensures.front_len, is.0)) in
    absurd cc

long : (c : goal.After-map) → length c.args.bytes.now / 4 ≡ 64
long c = omega (arith, c.as_chunks.ensures.front_len, c.in_ok-numbers.ensures.cases.long)

chunks : (c : goal.After-map) → c.in_ok-numbers.numbers.now ≡ first_chunks 4 64 c.args.bytes.now
chunks c = c.in_ok-numbers.ensures.cases.same ∙ c.as_chunks.ensures.front ∙ ap (λ k. first_chunks 4 k c.args.bytes.now) (long c)

read : (c : goal.After-map) → AreRead 64 c.args.bytes.now c.map.result
read c = λ i below. let call = (c.map.ensures.items.at i [] 0 below).2 in let here : get_or c.map.result i 0 ≡ from_be_bytes w32 (get_or c.in_ok-numbers.numbers.now i []) = search rules in here ∙ ap (λ (l : List (List ℕ)). from_be_bytes w32 (get_or l i [])) (chunks c)

pub returns-clause-only : goal.returns-clause-only
returns-clause-only c = numbers_of_bytes 64 c.args.bytes.now c.map.result (omega (arith, long c, c.as_chunks.ensures.back_len, c.in_default-empty.len_below)) c.map.ensures.items.long (λ i. omega (arith, c.type_inv.bytes i)) (read c)

pub returns-clause-back : goal.returns-clause-back
returns-clause-back c = λ n is e. ap (λ (ns : List ℕ). Some (record { highest = ns })) (numbers_again 64 c.args.bytes.now c.map.result n.highest c.map.ensures.items.long is.0 is.1 e (read c))
