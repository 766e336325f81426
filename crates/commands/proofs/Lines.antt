-- The lines of a list, one after the other.
-- Assumes nothing.
use Rattle.std.proofs.Common.{◌≡◌, ℕ, zero, suc, ◌+◌, ◌-◌, ◌<◌, ◌≤◌, ◌⊎◌, ◌==◌, Bool, true, false, cond, List, [], ◌∷◌, ◌++◌, length, take, drop, map, get_or, Some, None, refl, sym, ap, subst, ◌∙◌, arith, add-one, append_assoc, append-nil, inl, inr}
use Rattle.std.specs.List.{position, position_or_len}
use Rattle.std.proofs.lemmas.Bool.Decides.{nat_tests}
use Rattle.std.proofs.lemmas.Bool.{cases_lt}
use Rattle.std.proofs.lemmas.List.{get_or_append_left, get_or_at, get_or_push, length-append, length_push, take-append-le, take_at, take_rest}
use Rattle.std.proofs.lemmas.List.Quantifiers.{position-Some}
use Rattle.std.proofs.lemmas.List.Sums.{fails_before_first}
use Rattle.commands.specs.declared.list_file.LineFault.{LineFault}
use Rattle.commands.specs.declared.list_file.LineFault.TheVariants.{NoMemory}
use Rattle.commands.specs.Lines.{Fits, InOrder, IsBad, Misfits, lines_in, path_of, paths_of}

abbrev pub newline : ℕ → Bool
newline c = c == 10

-- a line that a newline ends
ends : (text : List ℕ) (end : ℕ) → end < length text → ((k : ℕ) → k < end → newline (get_or text k 0) ≡ false) → newline (get_or text end 0) ≡ true → lines_in text ≡ take end text ∷ lines_in (drop (suc end) text)
unfolding lines_in
ends [] end below before here = absurd (omega arith)
ends (c ∷ cs) zero below before here = rw here refl
ends (c ∷ cs) (suc end) below before here =
    let first : newline c ≡ false = before 0 (omega arith) in
    let more : lines_in cs ≡ take end cs ∷ lines_in (drop (suc end) cs) = ends cs end (omega arith) (λ k lt. before (suc k) (omega arith)) here in
    rw (first, more) refl

-- a last line without one
stands_alone : (text : List ℕ) → 0 < length text → ((k : ℕ) → k < length text → newline (get_or text k 0) ≡ false) → lines_in text ≡ text ∷ []
unfolding lines_in
stands_alone [] some none = absurd (omega arith)
stands_alone (c ∷ []) some none =
    let first : newline c ≡ false = none 0 (omega arith) in
    rw first refl
stands_alone (c ∷ (d ∷ cs)) some none =
    let first : newline c ≡ false = none 0 (omega arith) in
    let more : lines_in (d ∷ cs) ≡ (d ∷ cs) ∷ [] = stands_alone (d ∷ cs) (omega arith) (λ k lt. none (suc k) (omega arith)) in
    rw (first, more) refl

pub ended_line : (text : List ℕ) (end : ℕ) → position newline text ≡ Some end → lines_in text ≡ take end text ∷ lines_in (take (length text - (end + 1)) (drop (end + 1) text))
ended_line text end e =
    let at = position-Some newline text end 0 e in
    ends text end at.0 at.2 at.1 ∙ ap (λ (n : ℕ). take end text ∷ lines_in (drop n text)) (sym (add-one end)) ∙ ap (λ (r : List ℕ). take end text ∷ lines_in r) (sym (take_rest text (end + 1)))

at_none : (b : Bool) (n : ℕ) → cond b (Some n) None ≡ None → b ≡ false
at_none true n e = absurd cc
at_none false n e = refl

pub last_line : (text : List ℕ) → 0 < length text → position newline text ≡ None → lines_in text ≡ text ∷ lines_in []
unfolding lines_in
last_line text some e =
    let past : length text ≤ position_or_len newline text = let b = at_none _ _ e in grind (arith, nat_tests) in
    stands_alone text some (λ k below. fails_before_first newline text k 0 (omega arith))

no_lines : (text : List ℕ) → length text ≡ 0 → paths_of text ≡ []
unfolding lines_in
no_lines [] none = refl
no_lines (c ∷ cs) none = absurd (omega arith)

fits_too : (ps qs : List (List ℕ)) (p q : List ℕ) → qs ≡ ps → q ≡ p → Fits ps p → Fits qs q
fits_too ps qs p q e f h = rw (e, f) h

-- one path more
in_order_more : (ps : List (List ℕ)) (p : List ℕ) → InOrder ps → Fits ps p → InOrder (ps ++ p ∷ [])
in_order_more ps p so_far fits = λ k below.
    elim (cases_lt k (length ps)) [
      | inl lt ↦ fits_too (take k ps) (take k (ps ++ p ∷ [])) (get_or ps k []) (get_or (ps ++ p ∷ []) k []) (take-append-le k ps (p ∷ []) (omega arith)) (get_or_append_left ps (p ∷ []) [] k lt) (so_far k lt)
      | inr le ↦
          let same : length ps ≡ k = omega (arith, length_push ps p) in
          fits_too ps (take k (ps ++ p ∷ [])) p (get_or (ps ++ p ∷ []) k []) (take_at ps (p ∷ []) k same) (get_or_push ps p [] k same) fits
    ]

-- a line that is taken
pub goes_on : (all ps qs : List (List ℕ)) (rest line after : List ℕ) → all ≡ ps ++ paths_of rest → InOrder ps → lines_in rest ≡ line ∷ lines_in after → Fits ps (path_of line) → qs ≡ ps ++ path_of line ∷ [] → (all ≡ qs ++ paths_of after) × InOrder qs
goes_on all ps qs rest line after split so_far parts fits new =
    let one : ps ++ paths_of rest ≡ ps ++ path_of line ∷ paths_of after = ap (λ (ls : List (List ℕ)). ps ++ map path_of ls) parts in
    let two : ps ++ path_of line ∷ paths_of after ≡ qs ++ paths_of after = sym (append_assoc ps (path_of line ∷ []) (paths_of after)) ∙ ap (λ (l : List (List ℕ)). l ++ paths_of after) (sym new) in
    (split ∙ one ∙ two, subst InOrder (sym new) (in_order_more ps (path_of line) so_far fits))

why_too : (ps qs : List (List ℕ)) (p q : List ℕ) (f : LineFault) → qs ≡ ps → q ≡ p → (f ≡ NoMemory) ⊎ Misfits ps p f → (f ≡ NoMemory) ⊎ Misfits qs q f
why_too ps qs p q f e g h = rw (e, g) h

-- a line that is not
pub stops : (all ps : List (List ℕ)) (rest line after : List ℕ) (f : LineFault) → all ≡ ps ++ paths_of rest → InOrder ps → lines_in rest ≡ line ∷ lines_in after → (f ≡ NoMemory) ⊎ Misfits ps (path_of line) f → IsBad all (length ps) f
stops all ps rest line after f split so_far parts why =
    let is : all ≡ ps ++ path_of line ∷ paths_of after = split ∙ ap (λ (ls : List (List ℕ)). ps ++ map path_of ls) parts in
    let front : take (length ps) all ≡ ps = ap (take (length ps)) is ∙ take_at ps (path_of line ∷ paths_of after) (length ps) refl in
    let here : get_or all (length ps) [] ≡ path_of line = ap (λ (l : List (List ℕ)). get_or l (length ps) []) is ∙ get_or_at ps (path_of line) (paths_of after) [] (length ps) refl in
    let long : length all ≡ length ps + length (path_of line ∷ paths_of after) = ap length is ∙ length-append ps (path_of line ∷ paths_of after) in
    (omega arith, subst InOrder (sym front) so_far, why_too ps (take (length ps) all) (path_of line) (get_or all (length ps) []) f front here why)

-- no line is left
pub all_read : (all ps : List (List ℕ)) (rest : List ℕ) → all ≡ ps ++ paths_of rest → InOrder ps → length rest ≡ 0 → (ps ≡ all) × InOrder all
all_read all ps rest split so_far none =
    let is : all ≡ ps = split ∙ ap (λ (l : List (List ℕ)). ps ++ l) (no_lines rest none) ∙ append-nil ps in
    (sym is, subst InOrder (sym is) so_far)
