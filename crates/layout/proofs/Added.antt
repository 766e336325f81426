-- Names that are added to a list are read from it.
-- Assumes nothing.
use Rattle.std.proofs.Common.{◌≡◌, ℕ, zero, suc, ◌+◌, ◌-◌, ◌*◌, ◌/◌, ◌%◌, ◌≤◌, List, [], ◌∷◌, ◌++◌, length, take, drop, map, refl, sym, ap, ◌∙◌, zero-add, arith, length-drop}
use Rattle.std.proofs.lemmas.List.{drop-append-le, drop_at, length-append, length-take, map-append, take-append-drop, take-append-le, take_at}
use Rattle.std.specs.List.{AllByRecursion}
use Rattle.std.specs.Simd.{first_chunks}
use Rattle.digest.specs.declared.value.Digest.{Digest}
use Rattle.layout.specs.Lists.{joined, listed_in, whole_names}

abbrev digests : List (List ℕ) → List Digest
digests cs = map (λ n. record { bytes = n }) cs

-- chunks that lie at the front
front : (k : ℕ) (xs ys : List ℕ) → 32 * k ≤ length xs → first_chunks 32 k (xs ++ ys) ≡ first_chunks 32 k xs
front zero xs ys long = refl
front (suc k) xs ys long =
    let first : take 32 (xs ++ ys) ≡ take 32 xs = take-append-le 32 xs ys (omega arith) in
    let after : drop 32 (xs ++ ys) ≡ drop 32 xs ++ ys = drop-append-le 32 xs ys (omega arith) in
    let more = front k (drop 32 xs) ys (omega (arith, length-drop 32 xs)) in
    λ i. first i ∷ (ap (first_chunks 32 k) after ∙ more) i

-- chunks of two lists one after the other
both : (k j : ℕ) (xs ys : List ℕ) → length xs ≡ 32 * k → first_chunks 32 (k + j) (xs ++ ys) ≡ first_chunks 32 k xs ++ first_chunks 32 j ys
both zero j [] ys long = ap (λ n. first_chunks 32 n ys) (zero-add j)
both zero j (x ∷ xs) ys long = absurd (omega arith)
both (suc k) j xs ys long =
    let count : suc k + j ≡ suc (k + j) = omega arith in
    let first : take 32 (xs ++ ys) ≡ take 32 xs = take-append-le 32 xs ys (omega arith) in
    let after : drop 32 (xs ++ ys) ≡ drop 32 xs ++ ys = drop-append-le 32 xs ys (omega arith) in
    let more = both k j (drop 32 xs) ys (omega (arith, length-drop 32 xs)) in
    ap (λ n. first_chunks 32 n (xs ++ ys)) count ∙ (λ i. first i ∷ (ap (first_chunks 32 (k + j)) after ∙ more) i)

abbrev AreWhole : List Digest → Type 0
AreWhole names = AllByRecursion (λ n. length n.bytes ≡ 32) names

length-joined : (names : List Digest) → AreWhole names → length (joined names) ≡ 32 * length names
length-joined [] h = refl
length-joined (n ∷ names) h = omega (arith, h.0, length-joined names h.1, length-append n.bytes (joined names))

-- the names are read from their bytes
names_again : (names : List Digest) → AreWhole names → digests (first_chunks 32 (length names) (joined names)) ≡ names
names_again [] h = refl
names_again (n ∷ names) h =
    let first : take 32 (n.bytes ++ joined names) ≡ n.bytes = take_at n.bytes (joined names) 32 h.0 in
    let after : drop 32 (n.bytes ++ joined names) ≡ joined names = drop_at n.bytes (joined names) 32 h.0 in
    let more : digests (first_chunks 32 (length names) (drop 32 (n.bytes ++ joined names))) ≡ names = ap (λ (l : List ℕ). digests (first_chunks 32 (length names) l)) after ∙ names_again names h.1 in
    λ i. record { bytes = first i } ∷ more i

pub added_names_are_listed : (bytes : List ℕ) (names : List Digest) → AllByRecursion (λ n. length n.bytes ≡ 32) names → listed_in (whole_names bytes ++ joined names) ≡ listed_in bytes ++ names
added_names_are_listed bytes names h =
    let k = length bytes / 32 in
    let whole = whole_names bytes in
    let back = drop (length bytes - length bytes % 32) bytes in
    let long : length whole ≡ 32 * k = omega (arith, length-take (length bytes - length bytes % 32) bytes) in
    let count : length (whole ++ joined names) / 32 ≡ k + length names = omega (arith, long, length-append whole (joined names), length-joined names h) in
    let kept : first_chunks 32 k whole ≡ first_chunks 32 k bytes = sym (front k whole back (omega (arith, long))) ∙ ap (first_chunks 32 k) (take-append-drop (length bytes - length bytes % 32) bytes) in
    let chunks : first_chunks 32 (length (whole ++ joined names) / 32) (whole ++ joined names) ≡ first_chunks 32 k bytes ++ first_chunks 32 (length names) (joined names) =
    ap (λ n. first_chunks 32 n (whole ++ joined names)) count ∙ both k (length names) whole (joined names) long ∙ ap (λ (cs : List (List ℕ)). cs ++ first_chunks 32 (length names) (joined names)) kept in
    ap digests chunks ∙ map-append (λ n. record { bytes = n }) (first_chunks 32 k bytes) (first_chunks 32 (length names) (joined names)) ∙ ap (λ (ns : List Digest). listed_in bytes ++ ns) (names_again names h)
