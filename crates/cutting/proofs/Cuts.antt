-- Laws of the rule, from any number and any begun piece on.
-- Assumes nothing.
use Rattle.std.proofs.Common.{◌≡◌, ℕ, zero, suc, ◌+◌, ◌<◌, ◌≤◌, true, false, cond, ◌⊎◌, List, [], ◌∷◌, ◌++◌, length, take, drop, fold, sym, refl, ap, ◌∙◌, inl, inr, ⊎_elim, append_assoc, zero-add, arith, length-append}
use Rattle.std.proofs.lemmas.Bool.{cases_lt, cases_Bool, lt-leb, cond-true, cond-false, cond_both}
use Rattle.std.proofs.lemmas.List.Sums.{fold_push}
use Rattle.cutting.specs.Rule.{next, number_after_all, ends, ended, cut_from, pieces}
use Rattle.cutting.proofs.Window.{window}

-- before it has 2,048 bytes no piece ends by the rule, whatever the number
pub ends_short : (size n : ℕ) → size < 2048 → ends size n ≡ false
ends_short size n h = rw (lt-leb 65536 size (omega arith), lt-leb 2048 size h)

-- from any two numbers before the begun piece the same test follows
ends_same : (m n : ℕ) (before : List ℕ) → ends (length before) (fold next m before) ≡ ends (length before) (fold next n before)
ends_same m n before =
    ⊎_elim
    (λ (short : length before < 2048). ends_short (length before) (fold next m before) short ∙ sym (ends_short (length before) (fold next n before) short))
    (λ (long : 2048 ≤ length before). ap (ends (length before)) (window m n before (omega arith)))
    (cases_lt (length before) 2048)

-- what follows once a byte has been added to the begun piece
unfoldable pub after : ℕ → List ℕ → List ℕ → List (List ℕ)
after n before bs = cond (ends (length before) n) (before ∷ cut_from n [] bs) (cut_from n before bs)

pub one_byte : (n : ℕ) (before : List ℕ) (b : ℕ) (bs : List ℕ) → cut_from n before (b ∷ bs) ≡ after (next n b) (before ++ (b ∷ [])) bs
unfolding cut_from after
one_byte n before b bs = rw length-append

after_same : (m n : ℕ) (before bs : List ℕ) → ends (length before) m ≡ ends (length before) n → cut_from m [] bs ≡ cut_from n [] bs → cut_from m before bs ≡ cut_from n before bs → after m before bs ≡ after n before bs
unfolding after
after_same m n before bs e p q = cc

-- the pieces from here on do not depend on the number before the begun piece
pub independent : (m n : ℕ) (before bs : List ℕ) → cut_from (fold next m before) before bs ≡ cut_from (fold next n before) before bs
unfolding cut_from
independent m n before [] = refl
independent m n before (b ∷ bs) =
    let longer = before ++ (b ∷ []) in
    let mine = fold next m longer in
    let other = fold next n longer in
    one_byte _ before b bs
    ∙ ap (λ (x : ℕ). after x longer bs) (sym (fold_push next m before b))
    ∙ after_same mine other longer bs (ends_same m n longer) (independent mine other [] bs) (independent m n longer bs)
    ∙ ap (λ (x : ℕ). after x longer bs) (fold_push next n before b)
    ∙ sym (one_byte _ before b bs)

-- so they are those of the rest of the file alone, where a piece has just ended
pub anew : (n : ℕ) (bs : List ℕ) → cut_from n [] bs ≡ pieces bs
anew n bs = independent n 0 [] bs

ended-push : (before : List ℕ) (b : ℕ) → ended (before ++ (b ∷ [])) ≡ (before ++ (b ∷ [])) ∷ []
unfolding ended
ended-push [] b = refl
ended-push (x ∷ xs) b = refl

-- at the end of the file
after_end : (n : ℕ) (before : List ℕ) (b : ℕ) → after n (before ++ (b ∷ [])) [] ≡ (before ++ (b ∷ [])) ∷ []
unfolding after cut_from ended
after_end n before b =
    let longer = before ++ (b ∷ []) in
    cond_both (ends (length longer) n) _ _ (λ (ps : List (List ℕ)). ps ≡ longer ∷ []) (λ _. refl) (λ _. ended-push before b)

pub after_true : (n : ℕ) (before bs : List ℕ) → ends (length before) n ≡ true → after n before bs ≡ before ∷ cut_from n [] bs
unfolding after
after_true n before bs h = cond-true _ _ _ h

pub after_false : (n : ℕ) (before bs : List ℕ) → ends (length before) n ≡ false → after n before bs ≡ cut_from n before bs
unfolding after
after_false n before bs h = cond-false _ _ _ h

shift : (before : List ℕ) (b j : ℕ) → length (before ++ (b ∷ [])) + j ≡ length before + suc j
shift before b j = simp length-append (omega arith)

-- The first piece, given where it ends: k bytes on, there being no end before.
pub first_cut : (n : ℕ) (before bs : List ℕ) (k : ℕ) → 0 < k → k ≤ length bs → ((j : ℕ) → 0 < j → j < k → ends (length before + j) (fold next n (take j bs)) ≡ false) → ((k ≡ length bs) ⊎ (ends (length before + k) (fold next n (take k bs)) ≡ true)) → cut_from n before bs ≡ (before ++ take k bs) ∷ pieces (drop k bs)
unfolding cut_from ended
first_cut n before bs zero some within none end = elim some [ ]
first_cut n before [] (suc k) some within none end = elim within [ ]
first_cut n before (b ∷ []) (suc zero) some within none end = one_byte n before b [] ∙ after_end (next n b) before b
first_cut n before (b ∷ (c ∷ cs)) (suc zero) some within none end =
    let longer = before ++ (b ∷ []) in
    let here : ends (length before + 1) (next n b) ≡ true = ⊎_elim (λ e. absurd (omega arith)) (λ t. t) end in
    one_byte n before b (c ∷ cs)
    ∙ after_true (next n b) longer (c ∷ cs) (rw length-append here)
    ∙ ap (λ (ps : List (List ℕ)). longer ∷ ps) (anew (next n b) (c ∷ cs))
first_cut n before (b ∷ bs) (suc (suc k)) some within none end =
    let longer = before ++ (b ∷ []) in
    let rest = first_cut (next n b) longer bs (suc k) (omega arith) (omega arith)
    (λ j p q. ap (λ (size : ℕ). ends size (fold next (next n b) (take j bs))) (shift before b j) ∙ none (suc j) (omega arith) (omega arith))
    (⊎_elim (λ e. inl (omega arith)) (λ t. inr (ap (λ (size : ℕ). ends size (fold next (next n b) (take (suc k) bs))) (shift before b (suc k)) ∙ t)) end)
    in
    one_byte n before b bs
    ∙ after_false (next n b) longer bs (rw length-append (none 1 (omega arith) (omega arith)))
    ∙ rest
    ∙ ap (λ (p : List ℕ). p ∷ pieces (drop (suc k) bs)) (append_assoc before (b ∷ []) (take (suc k) bs))

-- where a file's first piece ends
pub first_piece : (file : List ℕ) (k : ℕ) → 0 < k → k ≤ length file → ((j : ℕ) → j < k → 2048 ≤ j → ends j (number_after_all (take j file)) ≡ false) → ((k ≡ length file) ⊎ (ends k (number_after_all (take k file)) ≡ true)) → pieces file ≡ take k file ∷ pieces (drop k file)
first_piece file k some within none end =
    first_cut 0 [] file k some within
    (λ j p q. rw zero-add (⊎_elim (λ (short : j < 2048). ends_short j _ short) (λ (long : 2048 ≤ j). none j q long) (cases_lt j 2048)))
    (rw zero-add end)

-- every file that has bytes has a first piece
pub some_cut : (n : ℕ) (before : List ℕ) (b : ℕ) (bs : List ℕ) → (k : ℕ) × (k ≤ length bs) × (cut_from n before (b ∷ bs) ≡ (before ++ (b ∷ take k bs)) ∷ pieces (drop k bs))
unfolding cut_from ended
some_cut n before b [] = (0, omega arith, one_byte n before b [] ∙ after_end (next n b) before b)
some_cut n before b (c ∷ cs) =
    let longer = before ++ (b ∷ []) in
    ⊎_elim
    (λ (yes : ends (length longer) (next n b) ≡ true).
    (0, omega arith, one_byte n before b (c ∷ cs) ∙ after_true (next n b) longer (c ∷ cs) yes ∙ ap (λ (ps : List (List ℕ)). longer ∷ ps) (anew (next n b) (c ∷ cs))))
    (λ (no : ends (length longer) (next n b) ≡ false).
    let more = some_cut (next n b) longer c cs in
    (suc more.0, omega arith, one_byte n before b (c ∷ cs) ∙ after_false (next n b) longer (c ∷ cs) no ∙ more.2 ∙ ap (λ (p : List ℕ). p ∷ pieces (drop more.0 cs)) (append_assoc before (b ∷ []) (c ∷ take more.0 cs))))
    (cases_Bool (ends (length longer) (next n b)))
