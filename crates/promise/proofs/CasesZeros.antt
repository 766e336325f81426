-- The pieces of a file of zeros: the number stays 0, so each piece ends as soon as it may.
-- Assumes nothing.
use Rattle.std.proofs.Common.{◌≡◌, ◌∙◌, ap, ℕ, zero, suc, ◌+◌, ◌<◌, arith, false, List, [], ◌∷◌, ◌++◌, length, map, replicate, refl}
use Rattle.std.proofs.lemmas.Bool.{lt-leb}
use Rattle.std.proofs.lemmas.List.{length-replicate, replicate_more}
use Rattle.cutting.specs.Rule.{cut_from, ended, ends, pieces}
use Rattle.promise.specs.Cases.{Holds, case_f}

abbrev zeros : ℕ → List ℕ
zeros n = replicate n 0

-- no piece ends before it has 2,048 bytes
ends_short : (size : ℕ) → size < 2048 → ends size 0 ≡ false
ends_short size h = rw (lt-leb 65536 size (omega arith), lt-leb 2048 size h)

-- so a piece grows by zeros
grows : (j k : ℕ) (bs : List ℕ) → k + j < 2048 → cut_from 0 (zeros k) (zeros j ++ bs) ≡ cut_from 0 (zeros (k + j)) bs
unfolding cut_from
grows zero k bs h = let e : k + zero ≡ k = omega arith in rw e
grows (suc j) k bs h =
    let e : k + 1 + j ≡ k + suc j = omega arith in
    rw (length-replicate {A = ℕ} k 0, ends_short (k + 1) (omega arith), replicate_more {X = ℕ} k 0) (grows j (k + 1) bs (omega arith) ∙ rw e)

-- and ends when it has so many
first : (bs : List ℕ) → pieces (zeros 2047 ++ 0 ∷ bs) ≡ zeros 2048 ∷ pieces bs
unfolding cut_from
first bs = grows 2047 0 (0 ∷ bs) (omega arith) ∙ refl

-- what is left is the last one
last : pieces (zeros 904 ++ []) ≡ zeros 904 ∷ []
unfolding cut_from ended
last = grows 904 0 [] (omega arith)

-- so F holds
pub row_f : Holds case_f
row_f = ap (map length) (first _ ∙ ap (λ ps. zeros 2048 ∷ ps) (first _ ∙ ap (λ ps. zeros 2048 ∷ ps) last))
