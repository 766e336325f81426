use Rattle.std.proofs.Common.{◌≡◌, ℕ, cond, ◌∙◌, arith, rules}
use Rattle.std.specs.Prelude.{nat_le}
use Rattle.std.specs.Ordering.{ord_min, on, is_lt, nat_cmp}
use Rattle.std.proofs.lemmas.Grind.{common_steps}
use Rattle.std.proofs.lemmas.List.Sorted.{answers_always}
use Rattle.cutting.specs.Refusals.{rank}
use Rattle.cutting.proofs.refusal.Refusal.lowest.Goals as goal

-- of two with these ranks, the one that is not later
first_of : {X : Type 0} (m n : ℕ) (a b : X) → cond (is_lt (nat_cmp n m)) b a ≡ cond (nat_le m n) a b
first_of m n a b = grind (arith, common_steps)

pub returns : goal.returns
returns c =
    let least : c.min_by_key.result ≡ ord_min (on rank nat_cmp) c.args.self c.args.other = c.min_by_key.ensures rank (answers_always _ _ _ (λ f a r f' call. search rules)) in
    least ∙ first_of (rank c.args.self) (rank c.args.other) c.args.self c.args.other
