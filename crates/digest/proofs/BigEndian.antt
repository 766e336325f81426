-- Numbers as bytes, the highest first, and words one after the other.
-- Assumes nothing.
use Rattle.std.proofs.Common.{◌≡◌, ℕ, zero, suc, ◌+◌, ◌*◌, ◌/◌, ◌%◌, ◌^◌, ◌<◌, List, [], ◌∷◌, length, get_or, sym, refl, ap, ◌∙◌, div-one, arith}
use native.Mathlib.Nat.{mul-suc, pow-suc}
use Rattle.std.proofs.Math.Pow.{mod-mod-pow}
use Rattle.std.proofs.lemmas.Nat.{field_of, pow-add}
use Rattle.std.specs.Int.{bytes_high_first}
use Rattle.std.specs.List.{flat_map}
use Rattle.digest.specs.Sha256.{big_endian, word_bytes}

-- what `to_be_bytes` gives
pub to_be_bytes_is : (n x : ℕ) → bytes_high_first n x ≡ big_endian n x
unfolding big_endian
to_be_bytes_is zero x = refl
to_be_bytes_is (suc zero) x = rw div-one
to_be_bytes_is (suc (suc n)) x = ap (λ (l : List ℕ). (x / 256 ^ suc n % 256) ∷ l) (to_be_bytes_is (suc n) x)

place : (n : ℕ) → 2 ^ (8 * n) ≡ 256 ^ n
place zero = refl
place (suc n) = ap (λ (k : ℕ). 2 ^ k) (mul-suc 8 n) ∙ pow-add 2 (8 * n) 8 ∙ ap (λ (x : ℕ). x * 256) (place n) ∙ sym (pow-suc 256 n)

-- the lowest n bytes of a number are those of its lowest i + 8 * n bits
pub low_bytes : (n i x : ℕ) → big_endian n (x % 2 ^ (i + 8 * n)) ≡ big_endian n x
unfolding big_endian
low_bytes zero i x = refl
low_bytes (suc n) i x =
    let bits : i + 8 * suc n ≡ i + 8 + 8 * n = rw mul-suc (omega arith) in
    let byte : x % 2 ^ (i + 8 + 8 * n) / 2 ^ (8 * n) % 2 ^ 8 ≡ x / 2 ^ (8 * n) % 2 ^ 8 = ap (λ (y : ℕ). y % 2 ^ 8) (field_of x (i + 8) (8 * n)) ∙ mod-mod-pow (x / 2 ^ (8 * n)) i 8 in
    let same = place n in
    rw bits (λ k. (rw same at byte) k ∷ low_bytes n (i + 8) x k)

pub length-big_endian : (n x : ℕ) → length (big_endian n x) ≡ n
unfolding big_endian
length-big_endian zero x = refl
length-big_endian (suc n) x = ap suc (length-big_endian n x)

-- words one after the other, from a list of each one's bytes
pub words_flat : (ws : List ℕ) (four : List (List ℕ)) → length four ≡ length ws → ((i : ℕ) → i < length ws → get_or four i [] ≡ big_endian 4 (get_or ws i 0)) → flat_map (λ x. x) four ≡ word_bytes ws
unfolding word_bytes
words_flat [] [] long each = refl
words_flat [] (y ∷ ys) long each = absurd (omega arith)
words_flat (w ∷ ws) [] long each = absurd (omega arith)
words_flat (w ∷ ws) (y ∷ ys) long each =
    let first : y ≡ big_endian 4 w = each 0 (omega arith) in
    let more = words_flat ws ys (omega arith) (λ i h. each (suc i) (omega arith)) in
    cc
