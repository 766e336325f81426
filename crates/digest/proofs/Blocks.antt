-- Blocks of a message, and the hash value after some of them.
-- Assumes nothing.
use Rattle.std.proofs.Common.{◌≡◌, ℕ, zero, suc, ◌+◌, ◌*◌, ◌≤◌, List, ◌++◌, length, take, drop, refl, sym, ap, ◌∙◌, add-zero, add-suc, arith, length-drop, drop-drop}
use lib.Seq.{take-append-le, drop-append-le, drop-append-add}
use Rattle.std.specs.List.{fold}
use Rattle.std.specs.Simd.{first_chunks}
use Rattle.digest.specs.declared.words.Words.{Words}
use Rattle.digest.specs.Sha256.{block, compressed, hashed}

-- a block that lies in the first part of a message
block_left : (i : ℕ) (m more : List ℕ) → 64 * suc i ≤ length m → block i (m ++ more) ≡ block i m
unfolding block
block_left i m more h =
    let front : 64 * i ≤ length m = omega arith in
    let room : 64 ≤ length (drop (64 * i) m) = rw length-drop (omega arith) in
    ap (take 64) (drop-append-le (64 * i) m more front) ∙ take-append-le 64 (drop (64 * i) m) more room

-- a block that lies after whole blocks
block_right : (n i : ℕ) (m more : List ℕ) → length m ≡ 64 * n → block (n + i) (m ++ more) ≡ block i more
unfolding block
block_right n i m more l =
    let e : 64 * (n + i) ≡ length m + 64 * i = omega arith in
    ap (take 64) (ap (λ (k : ℕ). drop k (m ++ more)) e ∙ drop-append-add m more (64 * i))

-- what follows whole blocks does not change the hash value after them
pub hashed_left : (n : ℕ) (v : Words) (m more : List ℕ) → 64 * n ≤ length m → hashed n v (m ++ more) ≡ hashed n v m
unfolding hashed
hashed_left zero v m more h = refl
hashed_left (suc n) v m more h =
    let front : 64 * n ≤ length m = omega arith in
    let ih = hashed_left n v m more front in
    let b = block_left n m more h in
    cc

-- hashing whole blocks, and then further ones
pub hashed-append : (n k : ℕ) (v : Words) (m more : List ℕ) → length m ≡ 64 * n → hashed (n + k) v (m ++ more) ≡ hashed k (hashed n v m) more
unfolding hashed
hashed-append n zero v m more l = rw add-zero (hashed_left n v m more (omega arith))
hashed-append n (suc k) v m more l =
    let ih = hashed-append n k v m more l in
    let b = block_right n k m more l in
    rw add-suc (cc)

-- the first block, and then the others
hashed-suc : (k : ℕ) (v : Words) (m : List ℕ) → hashed (suc k) v m ≡ hashed k (compressed v (take 64 m)) (drop 64 m)
unfolding hashed block
hashed-suc zero v m = refl
hashed-suc (suc k) v m =
    let e : 64 + 64 * k ≡ 64 * suc k = omega arith in
    let b : take 64 (drop (64 * suc k) m) ≡ take 64 (drop (64 * k) (drop 64 m)) = ap (take 64) (sym (drop-drop (64 * k) 64 m ∙ ap (λ (n : ℕ). drop n m) e)) in
    (λ i. compressed (hashed-suc k v m i) (b i))

-- the blocks that a message is cut into, one after the other
pub hashed_in_turn : (k : ℕ) (v : Words) (m : List ℕ) → hashed k v m ≡ fold compressed v (first_chunks 64 k m)
unfolding hashed
hashed_in_turn zero v m = refl
hashed_in_turn (suc k) v m = hashed-suc k v m ∙ hashed_in_turn k (compressed v (take 64 m)) (drop 64 m)
