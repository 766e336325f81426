-- The first line of a text, and the lines after it.
-- Assumes nothing.
use Rattle.std.proofs.Common.{◌≡◌, ℕ, ◌+◌, ◌-◌, ◌≤◌, ◌==◌, Bool, true, false, cond, List, [], ◌∷◌, length, take, drop, Some, None, sym, ap, ◌∙◌, arith, refl}
use Rattle.std.specs.List.{position, position_or_len, slice_split}
use Rattle.std.proofs.lemmas.Bool.Decides.{nat_tests}
use Rattle.std.proofs.lemmas.List.{take_rest}
use Rattle.std.proofs.lemmas.List.Quantifiers.{position-Some}
use Rattle.std.proofs.lemmas.List.Splits.{slice_split_first, slice_split_none}
use Rattle.std.proofs.lemmas.List.Sums.{fails_before_first, position_or_len_is}

abbrev pub newline : ℕ → Bool
newline c = c == 10

-- where there is a newline
pub cut_at : (text : List ℕ) (end : ℕ) → position newline text ≡ Some end → slice_split newline text ≡ take end text ∷ slice_split newline (take (length text - (end + 1)) (drop (end + 1) text))
cut_at text end e =
    let at = position-Some newline text end 0 e in
    let is : position_or_len newline text ≡ end = position_or_len_is newline text end 0 (omega arith) at.2 (λ _. at.1) in
    slice_split_first newline text 0 (omega arith) ∙ (λ i. take (is i) text ∷ slice_split newline (drop (is i + 1) text)) ∙ ap (λ (r : List ℕ). take end text ∷ slice_split newline r) (sym (take_rest text (end + 1)))

at_none : (b : Bool) (n : ℕ) → cond b (Some n) None ≡ None → b ≡ false
at_none true n e = absurd cc
at_none false n e = refl

-- where there is none
pub one_line : (text : List ℕ) → position newline text ≡ None → slice_split newline text ≡ text ∷ []
one_line text e =
    let past : length text ≤ position_or_len newline text = let b = at_none _ _ e in grind (arith, nat_tests) in
    slice_split_none newline text (λ k d below. fails_before_first newline text k d (omega arith))
