-- Where the first word of a line begins, and where it ends.
-- Assumes nothing.
use Rattle.std.proofs.Common.{◌≡◌, ℕ, ◌+◌, ◌-◌, ◌<◌, ◌≤◌, Bool, true, false, cond, not, ltb, List, [], ◌∷◌, length, get_or, take, drop, Some, None, unwrap_or, sym, refl, ap, ◌∙◌, not-suc-le-zero, arith, length-take, length-drop, take_all}
use Rattle.std.specs.List.{prefix_len, position, position_or_len}
use Rattle.std.proofs.lemmas.List.{nil_from_length, get_or-drop}
use Rattle.std.proofs.lemmas.Bool.Decides.{nat_tests}
use Rattle.std.proofs.lemmas.List.Sums.{prefix_len-le-length, position_or_len_is}
use Rattle.std.proofs.lemmas.List.Quantifiers.{position-Some}
use Rattle.script.specs.Lines.{blank, trimmed, first}

not-not : (b : Bool) → not (not b) ≡ b
not-not true = refl
not-not false = refl

at_none : (b : Bool) (n : ℕ) → cond b (Some n) None ≡ None → b ≡ false
at_none true n e = absurd cc
at_none false n e = refl

or_end : (b : Bool) (n most : ℕ) → n ≤ most → ltb n most ≡ b → unwrap_or (cond b (Some n) None) most ≡ n
or_end true n most h e = refl
or_end false n most h e = grind (arith, nat_tests)

leads : (p : ℕ → Bool) (xs : List ℕ) → 0 < length xs → p (get_or xs 0 0) ≡ true → 0 < prefix_len p xs
leads p [] h e = absurd (not-suc-le-zero h)
leads p (x ∷ xs) h e = rw e (omega arith)

-- the first byte that is not blank stands behind those that are
behind : (l : List ℕ) → position_or_len (λ c. not (blank c)) l ≡ prefix_len blank l
behind l = λ i. prefix_len (λ (c : ℕ). not-not (blank c) i) l

-- there is a word, and it begins here
pub begins : (l : List ℕ) (start : ℕ) → position (λ c. not (blank c)) l ≡ Some start → drop start l ≡ trimmed l
unfolding trimmed
begins l start e =
    let at = position-Some (λ c. not (blank c)) l start 0 e in
    ap (λ (n : ℕ). drop n l) (sym (position_or_len_is (λ c. not (blank c)) l start 0 (omega arith) at.2 (λ _. at.1)) ∙ behind l)

-- and is not empty
pub first_some : (l : List ℕ) (start : ℕ) → position (λ c. not (blank c)) l ≡ Some start → 0 < length (first l)
unfolding first
first_some l start e =
    let at = position-Some (λ c. not (blank c)) l start 0 e in
    let here = begins l start e in
    let some : 0 < length (trimmed l) = omega (arith, ap length here, length-drop start l) in
    let from : start + 0 ≡ start = omega arith in
    let same : get_or (trimmed l) 0 0 ≡ get_or l start 0 = ap (λ (t : List ℕ). get_or t 0 0) (sym here) ∙ get_or-drop start l 0 0 ∙ ap (λ (k : ℕ). get_or l k 0) from in
    let more = leads (λ c. not (blank c)) (trimmed l) some (ap (λ (c : ℕ). not (blank c)) same ∙ at.1) in
    let most = prefix_len-le-length (λ c. not (blank c)) (trimmed l) in
    rw length-take (omega arith)

-- there is none
pub first_none : (l : List ℕ) → position (λ c. not (blank c)) l ≡ None → first l ≡ []
unfolding first trimmed
first_none l e =
    let first_at = behind l in
    let outside : length l ≤ prefix_len blank l = let t = at_none _ _ e in grind (arith, nat_tests) in
    let none : trimmed l ≡ [] = nil_from_length (trimmed l) (rw length-drop (omega arith)) in
    ap (λ (t : List ℕ). take (position_or_len blank t) t) none

-- the bytes from one on, as a slice of them is read
pub from_on : (l : List ℕ) (i : ℕ) → take (length l - i) (drop i l) ≡ drop i l
from_on l i = take_all (length l - i) (drop i l) (rw length-drop (omega arith))

-- where the first word ends
pub ends : (l : List ℕ) → unwrap_or (position blank l) (length l) ≡ position_or_len blank l
ends l = or_end _ _ _ (prefix_len-le-length (λ c. not (blank c)) l) refl
