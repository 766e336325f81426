-- The hexadecimal digits of bytes, two by two.
-- Assumes nothing.
use Rattle.std.proofs.Common.{◌≡◌, ℕ, zero, suc, ◌+◌, ◌*◌, ◌/◌, ◌%◌, ◌<◌, ◌≤◌, List, [], ◌∷◌, ◌++◌, length, get_or, take, drop, set, IsAscii, sym, subst, refl, ap, ◌∙◌, ⊎_elim, not-suc-le-zero, arith, length-drop}
use Rattle.std.specs.List.{flat_map}
use Rattle.std.specs.Simd.{first_chunks}
use Rattle.std.proofs.lemmas.Str.Ascii.{IsAscii-nil, IsAscii-cons}
use Rattle.std.proofs.lemmas.Bool.{cases_lt}
use Rattle.std.proofs.lemmas.Bool.Decides.{nat_tests}
use Rattle.std.proofs.lemmas.List.{take-append-drop, get_or-set_other}
use Rattle.std.proofs.lemmas.Grind.{get_or-set_at}
use Rattle.std.specs.Prelude.{Result, IsErr}
use Rattle.std.proofs.lemmas.Result.{IfOk-from_err}
use Rattle.digest.specs.declared.hex.NotADigest.{NotADigest}
use Rattle.digest.specs.declared.value.Digest.{Digest}
use Rattle.digest.specs.Hex.{digit, hex, Reads, Whole}

-- two numbers below 16 with one digit are one
digit_same : (m n : ℕ) → m < 16 → n < 16 → digit m ≡ digit n → m ≡ n
digit_same m n hm hn e = grind (arith, nat_tests)

ascii_append : (xs ys : List ℕ) → IsAscii xs → IsAscii ys → IsAscii (xs ++ ys)
ascii_append [] ys first second = second
ascii_append (x ∷ xs) ys first second = IsAscii-cons x (xs ++ ys) (first 0) (ascii_append xs ys (λ i. first (suc i)) second)

pub ascii_joined : (pairs : List (List ℕ)) → ((i : ℕ) → i < length pairs → IsAscii (get_or pairs i [])) → IsAscii (flat_map (λ p. p) pairs)
ascii_joined [] each = IsAscii-nil
ascii_joined (p ∷ pairs) each = ascii_append p (flat_map (λ p. p) pairs) (each 0 (omega arith)) (ascii_joined pairs (λ i below. each (suc i) (omega arith)))

pub length-hex : (bs : List ℕ) → length (hex bs) ≡ 2 * length bs
unfolding hex
length-hex [] = refl
length-hex (b ∷ bs) = let ih = length-hex bs in omega arith

-- the pair of a number's two digits
pub two_digits : (pair : List ℕ) (m n : ℕ) → length pair ≡ 2 → m < 16 → n < 16 → get_or pair 0 0 ≡ digit m → get_or pair 1 0 ≡ digit n → pair ≡ hex ((m * 16 + n) ∷ [])
unfolding hex
two_digits [] m n l hm hn p q = absurd (omega arith)
two_digits (c ∷ []) m n l hm hn p q = absurd (omega arith)
two_digits (c ∷ (d ∷ (e ∷ pair))) m n l hm hn p q = absurd (omega arith)
two_digits (c ∷ (d ∷ [])) m n l hm hn p q =
    let high : (m * 16 + n) / 16 ≡ m = omega arith in
    let low : (m * 16 + n) % 16 ≡ n = omega arith in
    rw (high, low) (λ i. p i ∷ (q i ∷ []))

-- the digits of each byte, joined
pub joined_digits : (bs : List ℕ) (pairs : List (List ℕ)) → length pairs ≡ length bs → ((i : ℕ) → i < length bs → get_or pairs i [] ≡ hex (get_or bs i 0 ∷ [])) → flat_map (λ p. p) pairs ≡ hex bs
unfolding hex
joined_digits [] [] e each = refl
joined_digits [] (p ∷ pairs) e each = absurd (omega arith)
joined_digits (b ∷ bs) [] e each = absurd (omega arith)
joined_digits (b ∷ bs) (p ∷ pairs) e each =
    let rest = joined_digits bs pairs (omega arith) (λ i below. each (suc i) (omega arith)) in
    λ i. each 0 (omega arith) i ++ rest i

-- and cut into pairs again
digits_cut : (bs : List ℕ) (i : ℕ) (d : List ℕ) → i < length bs → get_or (first_chunks 2 (length bs) (hex bs)) i d ≡ hex (get_or bs i 0 ∷ [])
unfolding hex
digits_cut [] i d below = absurd (not-suc-le-zero below)
digits_cut (b ∷ bs) zero d below = refl
digits_cut (b ∷ bs) (suc i) d below = digits_cut bs i d (omega arith)

pub pair_at : (text bs : List ℕ) (pairs : List (List ℕ)) → pairs ≡ first_chunks 2 (length text / 2) text → text ≡ hex bs → (i : ℕ) (d : List ℕ) → i < length bs → get_or pairs i d ≡ hex (get_or bs i 0 ∷ [])
pair_at text bs pairs cut e i d below =
    let half : length text / 2 ≡ length bs = omega (arith, ap length e, length-hex bs) in
    ap (λ (l : List (List ℕ)). get_or l i d) (cut ∙ (λ j. first_chunks 2 (half j) (e j))) ∙ digits_cut bs i d below

pub joined_pairs : (k : ℕ) (text : List ℕ) → length text ≡ 2 * k → flat_map (λ p. p) (first_chunks 2 k text) ≡ text
joined_pairs zero [] l = refl
joined_pairs zero (c ∷ text) l = absurd (omega arith)
joined_pairs (suc k) text l = ap (λ (rest : List ℕ). take 2 text ++ rest) (joined_pairs k (drop 2 text) (omega (arith, length-drop 2 text))) ∙ take-append-drop 2 text

-- as many bytes with the same digits are the same
pub same_digits : (xs ys : List ℕ) → length xs ≡ length ys → ((i : ℕ) → i < length xs → get_or xs i 0 < 256) → ((i : ℕ) → get_or ys i 0 < 256) → hex xs ≡ hex ys → xs ≡ ys
unfolding hex
same_digits [] [] l fx fy e = refl
same_digits [] (y ∷ ys) l fx fy e = absurd (omega arith)
same_digits (x ∷ xs) [] l fx fy e = absurd (omega arith)
same_digits (x ∷ xs) (y ∷ ys) l fx fy e =
    let x_fits : x < 256 = fx 0 (omega arith) in
    let y_fits : y < 256 = fy 0 in
    let high = digit_same (x / 16) (y / 16) (omega arith) (omega arith) (ap (λ (t : List ℕ). get_or t 0 0) e) in
    let low = digit_same (x % 16) (y % 16) (omega arith) (omega arith) (ap (λ (t : List ℕ). get_or t 1 0) e) in
    let first : x ≡ y = omega arith in
    let rest = same_digits xs ys (omega arith) (λ i below. fx (suc i) (omega arith)) (λ i. fy (suc i)) (ap (drop 2) e) in
    λ i. first i ∷ rest i

-- an element is put where all before it have what is asked of each
pub put_more : {X : Type 0} (P : ℕ → X → Type 0) (xs : List X) (i : ℕ) (y d : X) → i < length xs → P i y → ((j : ℕ) → j < i → P j (get_or xs j d)) → (j : ℕ) → j < i + 1 → P j (get_or (set xs i y) j d)
put_more P xs i y d inside here before j below =
    ⊎_elim
    (λ (first : j < i). subst (P j) (sym (get_or-set_other xs i j y d (λ e. omega arith))) (before j first))
    (λ (last : i ≤ j).
    let e : j ≡ i = omega arith in
    subst (P j) (sym (get_or-set_at xs i j y d e inside)) (subst (λ k. P k y) (sym e) here))
    (cases_lt j i)

-- a refusal is right where no digest has these digits
pub refused : (text : List ℕ) (r : Result Digest NotADigest) → IsErr r → ((d : Digest) → Whole d → text ≡ hex d.bytes → ⊥) → Reads text r
refused text r err none = record { only = IfOk-from_err r _ err; back = λ d w e. absurd (none d w e) }
