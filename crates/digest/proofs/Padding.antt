-- The padding, and the hash value after it.
-- Assumes nothing.
use Rattle.std.proofs.Common.{◌≡◌, ℕ, ◌-◌, ◌*◌, ◌/◌, ◌%◌, ◌^◌, ◌≤◌, List, [], ◌∷◌, ◌++◌, length, take, replicate, ap, ◌∙◌, subst, append_assoc, append-nil, w64, arith, length-append}
use lib.ListN.{length-replicate}
use Rattle.std.proofs.lemmas.List.{nil_from_length, take-replicate}
use Rattle.std.specs.Int.{to_be_bytes}
use Rattle.digest.specs.declared.hasher.Hasher.{Hasher}
use Rattle.digest.specs.Hasher.{Absorbed}
use Rattle.digest.specs.Sha256.{initial, hashed, gap, padded, big_endian}
use Rattle.digest.proofs.BigEndian.{to_be_bytes_is, low_bytes, length-big_endian}

-- what `to_be_bytes` gives of the length in bits, where the length is counted modulo 2 ^ 64
pub length_bytes : (l n : ℕ) → n ≡ l % 2 ^ 64 → to_be_bytes w64 (n * 8 % 2 ^ 64) ≡ big_endian 8 (8 * l)
length_bytes l n p =
    let bits : n * 8 % 2 ^ 64 ≡ 8 * l % 2 ^ 64 = omega arith in
    to_be_bytes_is 8 (n * 8 % 2 ^ 64) ∙ ap (big_endian 8) bits ∙ low_bytes 8 0 (8 * l)

-- the first n of 64 bytes 0
pub first_zeros : (n g : ℕ) → n ≡ g → n ≤ 64 → take {A = ℕ} n (replicate 64 0) ≡ replicate g 0
first_zeros n g e h = rw (← e) (take-replicate n 64 0 h)

-- the padding is taken in part by part
pub absorbed_padded : (h : Hasher) (m zeros end : List ℕ) → zeros ≡ replicate (gap (length m)) 0 → end ≡ big_endian 8 (8 * length m) → Absorbed h (m ++ (0x80 ∷ []) ++ zeros ++ end)
    → Absorbed h (padded m)
unfolding padded
absorbed_padded h m zeros end p q a =
    let e : m ++ (0x80 ∷ []) ++ zeros ++ end ≡ m ++ (0x80 ∷ (zeros ++ end)) = simp append_assoc in
    subst (Absorbed h) (e ∙ (λ i. m ++ (0x80 ∷ (p i ++ q i)))) a

-- a padded message is whole blocks
pub padded_whole : (m : List ℕ) → length (padded m) % 64 ≡ 0
unfolding padded gap
padded_whole m =
    let a = length-append m (0x80 ∷ (replicate ((119 - length m % 64) % 64) 0 ++ big_endian 8 (8 * length m))) in
    let b = length-append (replicate ((119 - length m % 64) % 64) 0) (big_endian 8 (8 * length m)) in
    let c = length-replicate {A = ℕ} ((119 - length m % 64) % 64) 0 in
    let d = length-big_endian 8 (8 * length m) in
    omega arith

-- the hash value once whole blocks are taken in
pub absorbed_whole : (h : Hasher) (m : List ℕ) → length m % 64 ≡ 0 → Absorbed h m → h.value ≡ hashed (length m / 64) initial m
absorbed_whole h m whole a =
    let parts = ap length a.rest ∙ length-append a.front h.rest.items in
    let short = a.short in
    let w = a.whole in
    let none : length h.rest.items ≡ 0 = omega arith in
    let all : m ≡ a.front = a.rest ∙ ap (λ (l : List ℕ). a.front ++ l) (nil_from_length h.rest.items none) ∙ append-nil a.front in
    let l = ap length all in
    let n : length m / 64 ≡ a.blocks = omega arith in
    let v = a.value in
    cc
