-- Pieces that are collected one by one.
-- Assumes nothing.
use Rattle.std.proofs.Common.{◌≡◌, ℕ, ◌<◌, ◌≤◌, List, [], ◌∷◌, ◌++◌, length, IsErrAnd, Result, Vec, sym, ap, ◌∙◌, append_assoc, arith, length-append, Bor}
use Rattle.std.specs.declared.alloc.Global.{Global}
use Rattle.std.proofs.lemmas.List.{map-append}
use Rattle.std.proofs.lemmas.Result.{err_from_is_err_and}
use Rattle.cutting.specs.declared.refusal.Refusal.{Refusal}
use Rattle.cutting.specs.declared.refusal.Refusal.TheVariants.{NoMemory}
use Rattle.cutting.specs.Rule.{most_in_file, cut_from, ended, pieces}
use Rattle.cutting.specs.Results.{contents, Cut}

-- the next piece of what is left goes to those that are found
pub one_more : (file s t : List ℕ) (ps : List (Bor (List ℕ))) (p : Bor (List ℕ)) → pieces file ≡ contents ps ++ pieces s → pieces s ≡ p.now ∷ pieces t → pieces file ≡ contents (ps ++ (p ∷ [])) ++ pieces t
one_more file s t ps p before step =
    before
    ∙ ap (λ (l : List (List ℕ)). contents ps ++ l) step
    ∙ sym (append_assoc (contents ps) (p.now ∷ []) (pieces t))
    ∙ ap (λ (l : List (List ℕ)). l ++ pieces t) (sym (map-append (λ q. q.now) ps (p ∷ [])))

-- a file that has a piece has bytes
pub has_bytes : (file s t : List ℕ) (ps : List (List ℕ)) (p : List ℕ) → pieces file ≡ ps ++ pieces s → pieces s ≡ p ∷ pieces t → 0 < length file
unfolding cut_from ended
has_bytes [] s t ps p before step =
    let none = before ∙ ap (λ (l : List (List ℕ)). ps ++ l) step in
    omega (arith, simp length-append at (ap length none))
has_bytes (b ∷ bs) s t ps p before step = omega arith

-- where there is no memory for one more
pub no_memory : (file : List ℕ) (r : Result (Vec (Bor (List ℕ)) Global) Refusal) → 0 < length file → length file ≤ most_in_file → IsErrAnd r (λ y. y ≡ NoMemory) → Cut file r
no_memory file r some few passed = let e = err_from_is_err_and r passed in rw (e.1, e.2) (some, few)
