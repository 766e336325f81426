-- Numbers that are read digit by digit.
-- Assumes nothing.
use Rattle.std.proofs.Common.{◌≡◌, ℕ, zero, suc, ◌+◌, ◌-◌, ◌*◌, ◌/◌, ◌%◌, ◌<◌, ◌≤◌, List, [], ◌∷◌, ◌++◌, length, get_or, take, drop, is_some, IsErrAnd, Some, Ok, fold, Option, Result, Vec, unwrap_or, sym, refl, ap, ◌∙◌, subst, ⊎_elim, not-suc-le-zero, arith, take-append-drop, length-take-le, take_all, append_assoc}
use Rattle.std.specs.declared.alloc.Global.{Global}
use Rattle.std.proofs.lemmas.List.{get_or-drop, take_more}
use Rattle.std.proofs.lemmas.Result.{err_from_is_err_and}
use Rattle.std.proofs.lemmas.List.Sums.{fold-append, fold_more}
use Rattle.std.proofs.lemmas.Bool.{cases_lt}
use Rattle.std.specs.Simd.{first_chunks}
use Rattle.script.specs.declared.fault.Fault.{Fault}
use Rattle.script.specs.declared.fault.Fault.TheVariants.{NoMemory, NoHexDigit}
use Rattle.script.specs.Numbers.{hex_value, HexDigits, paired, decimal_value}
use Rattle.script.specs.Readings.{NoDigit, HexBlamed, HexRead, ByteRead}

chunk_at : (w : List ℕ) (k i : ℕ) → i < k → 2 * k ≤ length w → get_or (first_chunks 2 k w) i [] ≡ get_or w (2 * i) 0 ∷ (get_or w (2 * i + 1) 0 ∷ [])
chunk_at w zero i h l = absurd (omega arith)
chunk_at [] (suc k) i h l = absurd (omega arith)
chunk_at (x ∷ []) (suc k) i h l = absurd (omega arith)
chunk_at (x ∷ (y ∷ w)) (suc k) zero h l = refl
chunk_at (x ∷ (y ∷ w)) (suc k) (suc i) h l =
    let a : suc (suc (2 * i)) ≡ 2 * suc i = omega arith in
    let b : suc (suc (2 * i + 1)) ≡ 2 * suc i + 1 = omega arith in
    chunk_at w k i (omega arith) (omega arith) ∙ (λ j. get_or (x ∷ (y ∷ w)) (a j) 0 ∷ (get_or (x ∷ (y ∷ w)) (b j) 0 ∷ []))

-- the digits of one of a word's pairs
pub pair_at : (w : List ℕ) (pairs : List (List ℕ)) (i : ℕ) → pairs ≡ first_chunks 2 (length w / 2) w → i < length w / 2 → get_or pairs i [] ≡ get_or w (2 * i) 0 ∷ (get_or w (2 * i + 1) 0 ∷ [])
pair_at w pairs i cut h = ap (λ (l : List (List ℕ)). get_or l i []) cut ∙ chunk_at w (length w / 2) i h (omega arith)

-- the digit that is left of an odd number of them
pub last_at : (w last : List ℕ) → last ≡ drop (length w / 2 * 2) w → length w % 2 ≡ 1 → get_or last 0 0 ≡ get_or w (length w - 1) 0
last_at w last cut odd =
    let n : length w / 2 * 2 + 0 ≡ length w - 1 = omega arith in
    ap (λ (l : List ℕ). get_or l 0 0) cut ∙ get_or-drop (length w / 2 * 2) w 0 0 ∙ ap (λ (k : ℕ). get_or w k 0) n

-- one digit more
pub digits_more : (w : List ℕ) (i d : ℕ) → HexDigits w i → hex_value (get_or w i 0) ≡ Some d → HexDigits w (i + 1)
digits_more w i d so_far e =
    λ k h.
    ⊎_elim (λ (below : k < i). so_far k below)
    (λ (last : i ≤ k).
    let same : k ≡ i = omega arith in
    ap (λ (j : ℕ). is_some (hex_value (get_or w j 0))) same ∙ ap is_some e)
    (cases_lt k i)

pub digits_at : (w : List ℕ) (i j : ℕ) → i ≡ j → HexDigits w i → HexDigits w j
digits_at w i j e h = subst (HexDigits w) e h

-- the digit that is none is the first one
blamed_at : (w : List ℕ) (i : ℕ) (f : Fault) → i < length w → HexDigits w i → NoDigit (get_or w i 0) (i + 1) f → HexBlamed w f
blamed_at w i NoMemory h k n = tt
blamed_at w i (NoHexDigit t place) h k n = (i, h, k, n)
blamed_at w i other h k n = absurd n

-- where a digit's fault is passed on
pub hex_exit : (w : List ℕ) (i c place : ℕ) (f : Fault) (r : Result (Vec ℕ Global) Fault) → i < length w → HexDigits w i → c ≡ get_or w i 0 → place ≡ i + 1 → NoDigit c place f → IsErrAnd r (λ y. y ≡ f) → HexRead w r
hex_exit w i c place f r h k at last n e =
    let p = err_from_is_err_and r e in
    rw (p.1, p.2) (blamed_at w i f h k (subst (λ (x : ℕ). NoDigit x (i + 1) f) at (subst (λ (x : ℕ). NoDigit c x f) last n)))

paired-push : (xs : List ℕ) (c d : ℕ) → length xs % 2 ≡ 0 → paired (xs ++ (c ∷ (d ∷ []))) ≡ paired xs ++ ((unwrap_or (hex_value c) 0 * 16 + unwrap_or (hex_value d) 0) ∷ [])
unfolding paired
paired-push [] c d h = refl
paired-push (x ∷ []) c d h = absurd (omega arith)
paired-push (x ∷ (y ∷ xs)) c d h = ap (λ (l : List ℕ). (unwrap_or (hex_value x) 0 * 16 + unwrap_or (hex_value y) 0) ∷ l) (paired-push xs c d (omega arith))

take_pair : (w : List ℕ) (i : ℕ) → 2 * i + 1 < length w → take (2 * (i + 1)) w ≡ take (2 * i) w ++ (get_or w (2 * i) 0 ∷ (get_or w (2 * i + 1) 0 ∷ []))
take_pair w i h =
    let n : 2 * (i + 1) ≡ 2 * i + 1 + 1 = omega arith in
    let c = get_or w (2 * i) 0 in
    let d = get_or w (2 * i + 1) 0 in
    ap (λ (k : ℕ). take k w) n ∙ take_more w (2 * i + 1) 0 h ∙ ap (λ (l : List ℕ). l ++ (d ∷ [])) (take_more w (2 * i) 0 (omega arith)) ∙ append_assoc (take (2 * i) w) (c ∷ []) (d ∷ [])

-- one byte more
pub paired_more : (w : List ℕ) (i m n : ℕ) → 2 * i + 1 < length w → hex_value (get_or w (2 * i) 0) ≡ Some m → hex_value (get_or w (2 * i + 1) 0) ≡ Some n
    → paired (take (2 * (i + 1)) w) ≡ paired (take (2 * i) w) ++ ((m * 16 + n) ∷ [])
paired_more w i m n h p q =
    let fits : 2 * i ≤ length w = omega arith in
    let long : length (take (2 * i) w) ≡ 2 * i = length-take-le (2 * i) w fits in
    let even : length (take (2 * i) w) % 2 ≡ 0 = omega arith in
    let a = ap (λ (o : Option ℕ). unwrap_or o 0) p in
    let b = ap (λ (o : Option ℕ). unwrap_or o 0) q in
    ap paired (take_pair w i h) ∙ paired-push (take (2 * i) w) (get_or w (2 * i) 0) (get_or w (2 * i + 1) 0) even
    ∙ (λ j. paired (take (2 * i) w) ++ ((a j * 16 + b j) ∷ []))

-- a word of two digits
pub two_digits : (w : List ℕ) (m n : ℕ) → length w ≡ 2 → hex_value (get_or w 0 0) ≡ Some m → hex_value (get_or w 1 0) ≡ Some n → ByteRead w (Ok (m * 16 + n))
unfolding paired
two_digits w m n l p q =
    let both = digits_more w 1 n (digits_more w 0 m (λ k h. absurd (not-suc-le-zero h)) p) q in
    let all = ap paired (sym (take_all 2 w (omega arith))) ∙ paired_more w 0 m n (omega arith) p q in
    (l, both, all)

abbrev step : ℕ → ℕ → ℕ
step n c = n * 10 + (c - 48)

grows : (n : ℕ) (w : List ℕ) → n ≤ fold step n w
grows n [] = omega arith
grows n (c ∷ w) = let ih = grows (n * 10 + (c - 48)) w in omega arith

-- digits that follow do not make a number smaller
pub decimal_front : (w : List ℕ) (i : ℕ) → decimal_value (take i w) ≤ decimal_value w
decimal_front w i =
    let whole : decimal_value w ≡ fold step (decimal_value (take i w)) (drop i w) = ap (fold step 0) (sym (take-append-drop i w)) ∙ fold-append step 0 (take i w) (drop i w) in
    let more = grows (decimal_value (take i w)) (drop i w) in
    omega arith

pub decimal_more : (w : List ℕ) (i : ℕ) → i < length w → decimal_value (take (i + 1) w) ≡ decimal_value (take i w) * 10 + (get_or w i 0 - 48)
decimal_more w i h = fold_more step 0 w i 0 h
