-- The chunks that a list is cut into, and words from chunks of bytes.
-- Assumes nothing.
use Rattle.std.proofs.Common.{◌≡◌, ℕ, zero, suc, ◌+◌, ◌*◌, ◌<◌, List, get_or, take, drop, ap, ◌∙◌, not-suc-le-zero, w32, arith, drop-drop, get_or-take}
use native.Mathlib.Nat.{mul-zero, mul-suc}
use Rattle.std.proofs.lemmas.List.{get_or-drop}
use Rattle.std.specs.Int.{from_be_bytes}
use Rattle.std.specs.Simd.{first_chunks}
use Rattle.digest.specs.Sha256.{word}

-- chunk i, of n elements
pub chunk_at : {X : Type 0} (n k i : ℕ) (xs : List X) (d : List X) → i < k → get_or (first_chunks n k xs) i d ≡ take n (drop (n * i) xs)
chunk_at n zero i xs d h = absurd (not-suc-le-zero h)
chunk_at n (suc k) zero xs d h = rw mul-zero
chunk_at n (suc k) (suc i) xs d h =
    let below : i < k = omega arith in
    let e : n + n * i ≡ n * suc i = rw mul-suc (omega arith) in
    chunk_at n k i (drop n xs) d below ∙ ap (take n) (drop-drop (n * i) n xs ∙ ap (λ (j : ℕ). drop j xs) e)

-- element j of chunk i
pub chunk_element : {X : Type 0} (n k i j at : ℕ) (xs : List X) (chunks : List (List X)) (d : List X) (e : X) → chunks ≡ first_chunks n k xs → i < k → j < n → n * i + j ≡ at
    → get_or (get_or chunks i d) j e ≡ get_or xs at e
chunk_element {X = X} n k i j at xs chunks d e cut below inside here =
    ap (λ (l : List X). get_or l j e) (ap (λ (l : List (List X)). get_or l i d) cut ∙ chunk_at n k i xs d below)
    ∙ get_or-take n (drop (n * i) xs) j e inside
    ∙ get_or-drop (n * i) xs j e
    ∙ ap (λ (a : ℕ). get_or xs a e) here

-- word i of a block, from the chunk that has its bytes
pub word_of_chunk : (k i : ℕ) (b : List ℕ) (chunks : List (List ℕ)) (d : List ℕ) → chunks ≡ first_chunks 4 k b → i < k → from_be_bytes w32 (get_or chunks i d) ≡ word i b
unfolding word
word_of_chunk k i b chunks d cut below =
    let e0 : get_or (get_or chunks i d) 0 0 ≡ get_or b (4 * i) 0 = chunk_element 4 k i 0 (4 * i) b chunks d 0 cut below (omega arith) (omega arith) in
    let e1 : get_or (get_or chunks i d) 1 0 ≡ get_or b (4 * i + 1) 0 = chunk_element 4 k i 1 (4 * i + 1) b chunks d 0 cut below (omega arith) (omega arith) in
    let e2 : get_or (get_or chunks i d) 2 0 ≡ get_or b (4 * i + 2) 0 = chunk_element 4 k i 2 (4 * i + 2) b chunks d 0 cut below (omega arith) (omega arith) in
    let e3 : get_or (get_or chunks i d) 3 0 ≡ get_or b (4 * i + 3) 0 = chunk_element 4 k i 3 (4 * i + 3) b chunks d 0 cut below (omega arith) (omega arith) in
    rw (e0, e1, e2, e3)
