-- Numbers of four bytes each, one after the other.
-- Assumes nothing.
use Rattle.digest.specs.Digests.{digest_of}
use Rattle.dayfile.proofs.OneForm.{same_signed}
use Rattle.layout.specs.Numbers.{number_bytes}
use Rattle.layout.specs.Signed.{signed}
use Rattle.std.proofs.Common.{◌≡◌, subst, ℕ, zero, suc, ◌+◌, ◌*◌, ◌^◌, ◌<◌, List, [], ◌∷◌, ◌++◌, length, get_or, take, drop, refl, sym, ap, ◌∙◌, arith, inl, inr, length-drop}
use Rattle.std.specs.Int.{w32, from_be_bytes, to_be_bytes}
use Rattle.std.specs.List.{flat_map}
use Rattle.std.specs.Simd.{first_chunks}
use Rattle.std.proofs.lemmas.Bool.{cases_lt}
use Rattle.std.proofs.lemmas.List.{take_at, drop_at, take-append-drop, length-append, length-take, get_or-drop, get_or-take, get_or_append_left, get_or_past}
use Rattle.std.proofs.lemmas.Nat.{be_bytes_4, from_be_bytes-to_be_bytes_4}

abbrev pub IsBytes : List ℕ → Type 0
IsBytes bytes = (i : ℕ) → get_or bytes i 0 < 256

IsBytes-drop : (n : ℕ) (bytes : List ℕ) → IsBytes bytes → IsBytes (drop n bytes)
IsBytes-drop n bytes h i = rw get_or-drop (h (n + i))

IsBytes-take : (n : ℕ) (bytes : List ℕ) → IsBytes bytes → IsBytes (take n bytes)
IsBytes-take n bytes h i =
    elim (cases_lt i n) [
      | inl lt ↦ rw (get_or-take n bytes i 0 lt) (h i)
      | inr le ↦ rw (get_or_past (take n bytes) i 0 (omega (arith, length-take n bytes))) (omega arith)
    ]

abbrev pub number_bytes4 : List ℕ → List ℕ
number_bytes4 ns = flat_map (to_be_bytes w32) ns

pub length-numbers : (ns : List ℕ) → length (number_bytes4 ns) ≡ 4 * length ns
length-numbers [] = refl
length-numbers (n ∷ ns) = omega (arith, length-numbers ns, length-append (to_be_bytes w32 n) (number_bytes4 ns))

-- each number is read from its four bytes
abbrev pub AreRead : ℕ → List ℕ → List ℕ → Type 0
AreRead k bytes ns = (i : ℕ) → i < k → get_or ns i 0 ≡ from_be_bytes w32 (get_or (first_chunks 4 k bytes) i [])

-- then the bytes are theirs
pub numbers_of_bytes : (k : ℕ) (bytes ns : List ℕ) → length bytes ≡ 4 * k → length ns ≡ k → IsBytes bytes → AreRead k bytes ns → bytes ≡ number_bytes4 ns
numbers_of_bytes zero [] [] l m h each = refl
numbers_of_bytes zero (b ∷ bytes) ns l m h each = absurd (omega arith)
numbers_of_bytes zero [] (n ∷ ns) l m h each = absurd (omega arith)
numbers_of_bytes (suc k) bytes [] l m h each = absurd (omega arith)
numbers_of_bytes (suc k) bytes (n ∷ ns) l m h each =
    let first : to_be_bytes w32 n ≡ take 4 bytes = be_bytes_4 (take 4 bytes) n (omega (arith, length-take 4 bytes)) (IsBytes-take 4 bytes h) (each 0 (omega arith)) in
    let more : drop 4 bytes ≡ number_bytes4 ns = numbers_of_bytes k (drop 4 bytes) ns (omega (arith, length-drop 4 bytes)) (omega arith) (IsBytes-drop 4 bytes h) (λ i below. each (suc i) (omega arith)) in
    sym (take-append-drop 4 bytes) ∙ (λ i. sym first i ++ more i)

-- and they are read again
pub numbers_again : (k : ℕ) (bytes ns ms : List ℕ) → length ns ≡ k → length ms ≡ k → ((i : ℕ) → get_or ms i 0 < 2 ^ 32) → bytes ≡ number_bytes4 ms → AreRead k bytes ns → ns ≡ ms
numbers_again zero bytes [] [] l m h e each = refl
numbers_again zero bytes (n ∷ ns) ms l m h e each = absurd (omega arith)
numbers_again zero bytes [] (n ∷ ns) l m h e each = absurd (omega arith)
numbers_again (suc k) bytes [] ms l m h e each = absurd (omega arith)
numbers_again (suc k) bytes (n ∷ ns) [] l m h e each = absurd (omega arith)
numbers_again (suc k) bytes (n ∷ ns) (y ∷ ys) l m h e each =
    let front : take 4 bytes ≡ to_be_bytes w32 y = ap (take 4) e ∙ take_at (to_be_bytes w32 y) (number_bytes4 ys) 4 refl in
    let after : drop 4 bytes ≡ number_bytes4 ys = ap (drop 4) e ∙ drop_at (to_be_bytes w32 y) (number_bytes4 ys) 4 refl in
    let first : n ≡ y = each 0 (omega arith) ∙ ap (from_be_bytes w32) front ∙ from_be_bytes-to_be_bytes_4 y (h 0) in
    let more = numbers_again k (drop 4 bytes) ns ys (omega arith) (omega arith) (λ i. h (suc i)) after (λ i below. each (suc i) (omega arith)) in
    λ i. first i ∷ more i

pub IsBytes-front : (a b : List ℕ) → IsBytes (a ++ b) → IsBytes a
IsBytes-front a b h i =
    elim (cases_lt i (length a)) [
      | inl lt ↦ rw (sym (get_or_append_left a b 0 i lt)) (h i)
      | inr le ↦ rw (get_or_past a i 0 le) (omega arith)
    ]

-- the file of a number, from what stands before its digest
pub number_is : (bytes body : List ℕ) (n : ℕ) → IsBytes bytes → bytes ≡ signed body → length body ≡ 4 → n ≡ from_be_bytes w32 body → bytes ≡ number_bytes n
number_is bytes body n fits e long is =
    let body_fits : IsBytes body = IsBytes-front body (digest_of body).bytes (subst IsBytes e fits) in
    e ∙ ap signed (sym (be_bytes_4 body n long body_fits is))

-- and back
pub number_body : (bytes body : List ℕ) (n : ℕ) → bytes ≡ signed body → bytes ≡ number_bytes n → body ≡ to_be_bytes w32 n
number_body bytes body n e f = same_signed body (to_be_bytes w32 n) (sym e ∙ f)

pub number_again : (bytes body : List ℕ) (n m : ℕ) → bytes ≡ signed body → m ≡ from_be_bytes w32 body → n < 2 ^ 32 → bytes ≡ number_bytes n → m ≡ n
number_again bytes body n m e is below f = is ∙ ap (from_be_bytes w32) (number_body bytes body n e f) ∙ from_be_bytes-to_be_bytes_4 n below
