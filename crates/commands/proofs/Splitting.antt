-- What stands before the first element that passes a test, and behind it.
-- Assumes nothing.
use Rattle.std.proofs.Common.{◌≡◌, ℕ, ◌+◌, ◌-◌, ◌≤◌, Bool, true, false, cond, List, length, take, drop, Some, None, sym, ap, ◌∙◌, arith}
use Rattle.std.specs.List.{after_first, before_first, position, position_or_len}
use Rattle.std.proofs.lemmas.Bool.Decides.{nat_tests}
use Rattle.std.proofs.lemmas.List.{drop_all, take_all, take_rest}

at_some : (b : Bool) (m n : ℕ) → cond b (Some m) None ≡ Some n → m ≡ n
at_some true m n e = cc
at_some false m n e = absurd cc

at_none : (b : Bool) (n : ℕ) → cond b (Some n) None ≡ None → b ≡ false
at_none true n e = absurd cc
at_none false n e = cc

-- where one passes
pub parts_at : {X : Type 0} (p : X → Bool) (xs : List X) (end : ℕ) → position p xs ≡ Some end → (take end xs ≡ before_first p xs) × (take (length xs - (end + 1)) (drop (end + 1) xs) ≡ after_first p xs)
parts_at p xs end e =
    let is : position_or_len p xs ≡ end = at_some _ _ _ e in
    (ap (λ (n : ℕ). take n xs) (sym is), take_rest xs (end + 1) ∙ ap (λ (n : ℕ). drop (n + 1) xs) (sym is))

-- where none does
pub no_parts : {X : Type 0} (p : X → Bool) (xs : List X) → position p xs ≡ None → (xs ≡ before_first p xs) × (take (length xs - length xs) (drop (length xs) xs) ≡ after_first p xs)
no_parts p xs e =
    let past : length xs ≤ position_or_len p xs = let b = at_none _ _ e in grind (arith, nat_tests) in
    (sym (take_all (position_or_len p xs) xs past), take_rest xs (length xs) ∙ drop_all (length xs) xs (omega arith) ∙ sym (drop_all (position_or_len p xs + 1) xs (omega arith)))
