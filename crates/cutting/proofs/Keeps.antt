-- What is promised of the pieces of a file, from the laws of the rule.
-- Assumes nothing.
use Rattle.std.proofs.Common.{◌≡◌, ℕ, zero, suc, ◌+◌, ◌<◌, ◌≤◌, true, false, leb, List, [], ◌∷◌, ◌++◌, length, get_or, take, drop, sym, refl, ap, ◌∙◌, subst, ⊎_elim, append_assoc, append-nil, zero-le, arith, length-append, length-drop, length-take-le, drop-drop}
use Rattle.std.proofs.Math.Seq.{drop-append-add}
use Rattle.std.proofs.lemmas.List.{drop-append-le}
use Rattle.std.proofs.lemmas.Bool.{cases_Bool, cond_both, leb-true, leb-false, or_cases, or_parts, and_parts}
use Rattle.std.specs.List.{concat}
use Rattle.cutting.specs.Rule.{next, ends, ended, cut_from, pieces}
use Rattle.cutting.specs.Promise.{Sizes, From, Promise}
use Rattle.cutting.proofs.Cuts.{one_byte, after_true, after_false, some_cut}

concat-ended : (before : List ℕ) → concat (ended before) ≡ before
unfolding ended
concat-ended [] = refl
concat-ended (b ∷ bs) = append-nil (b ∷ bs)

-- the pieces from here on, joined, are the begun piece and what is left of the file
concat_cut : (n : ℕ) (before bs : List ℕ) → concat (cut_from n before bs) ≡ before ++ bs
unfolding cut_from
concat_cut n before [] = concat-ended before ∙ sym (append-nil before)
concat_cut n before (b ∷ bs) =
    let longer = before ++ (b ∷ []) in
    cond_both (ends (length before + 1) (next n b)) _ _ (λ (ps : List (List ℕ)). concat ps ≡ before ++ (b ∷ bs))
    (λ _. ap (λ (l : List ℕ). longer ++ l) (concat_cut (next n b) [] bs) ∙ append_assoc before (b ∷ []) bs)
    (λ _. concat_cut (next n b) longer bs ∙ append_assoc before (b ∷ []) bs)

sizes-cons : (p : List ℕ) (ps : List (List ℕ)) → 1 ≤ length p → length p ≤ 65536 → (0 < length ps → 2048 ≤ length p) → Sizes ps → Sizes (p ∷ ps)
sizes-cons p ps low high enough s = record {
  some = λ i. elim i as (λ j. j < length (p ∷ ps) → 1 ≤ length (get_or (p ∷ ps) j [])) [ zero ↦ λ _. low | suc j ↦ λ h. s.some j (omega arith) ];
  most = λ i. elim i as (λ j. j < length (p ∷ ps) → length (get_or (p ∷ ps) j []) ≤ 65536) [ zero ↦ λ _. high | suc j ↦ λ h. s.most j (omega arith) ];
  least = λ i. elim i as (λ j. j + 1 < length (p ∷ ps) → 2048 ≤ length (get_or (p ∷ ps) j [])) [ zero ↦ λ h. enough (omega arith) | suc j ↦ λ h. s.least j (omega arith) ];
}

sizes_none : Sizes []
sizes_none = record { some = λ i h. elim h [ ]; most = λ i h. elim h [ ]; least = λ i h. elim h [ ] }

sizes-ended : (before : List ℕ) → length before < 65536 → Sizes (ended before)
unfolding ended
sizes-ended [] h = sizes_none
sizes-ended (b ∷ bs) h = sizes-cons (b ∷ bs) [] (omega arith) (omega arith) (λ z. elim z [ ]) sizes_none

-- where a piece ends by the rule it has 2,048 bytes, and where it does not it has fewer than 65,536
ends_true : (size n : ℕ) → ends size n ≡ true → 2048 ≤ size
ends_true size n h =
    ⊎_elim (λ (t : leb 65536 size ≡ true). omega (arith, leb-true 65536 size t)) (λ t. leb-true 2048 size (and_parts _ _ t).0) (or_cases _ _ h)

ends_false : (size n : ℕ) → ends size n ≡ false → size < 65536
ends_false size n h = leb-false 65536 size (or_parts _ _ h).0

sizes_cut : (n : ℕ) (before bs : List ℕ) → length before < 65536 → Sizes (cut_from n before bs)
unfolding cut_from
sizes_cut n before [] h = sizes-ended before h
sizes_cut n before (b ∷ bs) h =
    let longer = before ++ (b ∷ []) in
    let size : length longer ≡ length before + 1 = length-append before (b ∷ []) in
    cond_both (ends (length before + 1) (next n b)) _ _ Sizes
    (λ yes.
    let enough = ends_true (length before + 1) (next n b) yes in
    sizes-cons longer (cut_from (next n b) [] bs) (omega arith) (omega arith) (λ _. omega arith) (sizes_cut (next n b) [] bs (omega arith)))
    (λ no.
    let few = ends_false (length before + 1) (next n b) no in
    sizes_cut (next n b) longer bs (omega arith))

-- where a piece has ended, the other pieces are those of the rest of the file
others_are : (file : List ℕ) (firsts others : List (List ℕ)) → pieces file ≡ firsts ++ others → others ≡ pieces (drop (length (concat firsts)) file)
unfolding cut_from ended
others_are file [] others h = sym h
others_are [] (f ∷ fs) others h = cc
others_are (b ∷ bs) (f ∷ fs) others h =
    let cut = some_cut 0 [] b bs in
    let k = cut.0 in
    let both = sym h ∙ cut.2 in
    let first : f ≡ b ∷ take k bs = cc in
    let rest : pieces (drop k bs) ≡ fs ++ others = cc in
    let long : length f ≡ suc k = ap length first ∙ ap suc (length-take-le k bs cut.1) in
    let size : length (f ++ concat fs) ≡ suc (k + length (concat fs)) = length-append f (concat fs) ∙ omega arith in
    others_are (drop k bs) fs others rest
    ∙ ap pieces (drop-drop (length (concat fs)) k bs)
    ∙ ap (λ (j : ℕ). pieces (drop j (b ∷ bs))) (sym size)

-- a begun piece stays in the piece that it becomes, and gets longer where there are more bytes
grows : (n : ℕ) (before : List ℕ) (b : ℕ) (bs f : List ℕ) (rest : List (List ℕ)) → cut_from n before (b ∷ bs) ≡ f ∷ rest → length before < length f
grows n before b bs f rest h =
    let cut = some_cut n before b bs in
    let both = sym h ∙ cut.2 in
    let same : f ≡ before ++ (b ∷ take cut.0 bs) = cc in
    let size : length f ≡ length before + length (b ∷ take cut.0 bs) = ap length same ∙ length-append before (b ∷ take cut.0 bs) in
    omega arith

begun : (n : ℕ) (before f : List ℕ) (rest : List (List ℕ)) → cut_from n before [] ≡ f ∷ rest → length before ≤ length f
unfolding cut_from ended
begun n [] f rest h = zero-le
begun n (x ∷ xs) f rest h =
    let same : f ≡ x ∷ xs = cc in
    rw same (omega arith)

-- a piece that ends in a stretch, and not at the end of the file, ends there whatever follows the stretch
same_first : (n : ℕ) (before stretch end other f : List ℕ) (rest : List (List ℕ)) → cut_from n before (stretch ++ end) ≡ f ∷ rest → length f ≤ length before + length stretch → length f < length before + length (stretch ++ end) → (theirs : List (List ℕ)) × (cut_from n before (stretch ++ other) ≡ f ∷ theirs)
same_first n before [] [] other f rest h inside early = absurd (omega (arith, begun n before f rest h))
same_first n before [] (e ∷ es) other f rest h inside early = absurd (omega (arith, grows n before e es f rest h))
same_first n before (b ∷ bs) end other f rest h inside early =
    let longer = before ++ (b ∷ []) in
    ⊎_elim
    (λ (yes : ends (length longer) (next n b) ≡ true).
    let both = sym (after_true (next n b) longer (bs ++ end) yes) ∙ sym (one_byte n before b (bs ++ end)) ∙ h in
    let same : longer ≡ f = cc in
    (cut_from (next n b) [] (bs ++ other), one_byte n before b (bs ++ other) ∙ after_true (next n b) longer (bs ++ other) yes ∙ ap (λ (p : List ℕ). p ∷ cut_from (next n b) [] (bs ++ other)) same))
    (λ (no : ends (length longer) (next n b) ≡ false).
    let size = length-append before (b ∷ []) in
    let more = same_first (next n b) longer bs end other f rest (sym (after_false (next n b) longer (bs ++ end) no) ∙ sym (one_byte n before b (bs ++ end)) ∙ h) (omega arith) (omega arith) in
    (more.0, one_byte n before b (bs ++ other) ∙ after_false (next n b) longer (bs ++ other) no ∙ more.1))
    (cases_Bool (ends (length longer) (next n b)))

-- and so do all pieces before it
begins_same : (stretch end other : List ℕ) (firsts others : List (List ℕ)) → pieces (stretch ++ end) ≡ firsts ++ others → length (concat firsts) ≤ length stretch → length (concat firsts) < length (stretch ++ end) → (theirs : List (List ℕ)) × (pieces (stretch ++ other) ≡ firsts ++ theirs)
begins_same stretch end other [] others h inside early = (pieces (stretch ++ other), refl)
begins_same stretch end other (f ∷ fs) others h inside early =
    let parts = length-append f (concat fs) in
    let fits : length f ≤ length stretch = omega arith in
    let left = drop (length f) stretch in
    let size = length-drop (length f) stretch in
    let whole = length-append stretch end in
    let rest = length-append left end in
    let one : concat (f ∷ []) ≡ f = append-nil f in
    let along : (tail : List ℕ) (ps : List (List ℕ)) → pieces (stretch ++ tail) ≡ f ∷ ps → ps ≡ pieces (left ++ tail) =
    λ tail ps e.
    others_are (stretch ++ tail) (f ∷ []) ps e
    ∙ ap (λ (p : List ℕ). pieces (drop (length p) (stretch ++ tail))) one
    ∙ ap pieces (drop-append-le (length f) stretch tail fits)
    in
    let first = same_first 0 [] stretch end other f (fs ++ others) h (omega arith) (omega arith) in
    let more = begins_same left end other fs others (sym (along end (fs ++ others) h)) (omega arith) (omega arith) in
    (more.0, first.1 ∙ ap (λ (ps : List (List ℕ)). f ∷ ps) (along other first.0 first.1 ∙ more.1))

-- from a place of a stretch on, the pieces are those of the rest of the stretch
from_place : (front stretch : List ℕ) (k : ℕ) (others : List (List ℕ)) → From (length front + k) (pieces (front ++ stretch)) others → others ≡ pieces (drop k stretch)
from_place front stretch k others h =
    others_are (front ++ stretch) h.firsts others h.all
    ∙ ap (λ (j : ℕ). pieces (drop j (front ++ stretch))) h.here
    ∙ ap pieces (drop-append-add front stretch k)

-- all that is promised holds of what the rule gives
pub promised : (file : List ℕ) (ps : List (List ℕ)) → ps ≡ pieces file → Promise file ps
promised file ps is = record {
  rule = is;
  whole = ap concat is ∙ concat_cut 0 [] file;
  sizes = subst Sizes (sym is) (sizes_cut 0 [] file (omega arith));
  in_step = λ front stretch other k mine theirs e a b.
      let same : ps ≡ pieces (front ++ stretch) = is ∙ ap pieces e in
      from_place front stretch k mine (record { firsts = a.firsts; all = sym same ∙ a.all; here = a.here })
      ∙ sym (from_place other stretch k theirs b);
  same_begin = λ stretch end other firsts others e all inside early.
      begins_same stretch end other firsts others (sym (is ∙ ap pieces e) ∙ all) inside (subst (λ (l : List ℕ). length (concat firsts) < length l) e early);
}
