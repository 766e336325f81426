-- The number that goes along a file has only its last 32 bytes in it.
-- Assumes nothing.
use Rattle.std.proofs.Common.{◌≡◌, ℕ, suc, ◌+◌, ◌-◌, ◌*◌, ◌%◌, ◌^◌, ◌<◌, ◌≤◌, List, [], ◌∷◌, ◌++◌, length, take, drop, fold, sym, ap, ◌∙◌, ⊎_elim, add-zero, add_assoc, mod-lt, mod-eq_of_lt, mul_assoc, mul_comm, add-mul, pow-suc, mul-one, arith, lit<, length-drop, take-append-drop, pow-add}
use Rattle.std.proofs.Math.Nat.{mod-add-mod, mul-add-mod_self_left}
use Rattle.std.proofs.lemmas.Nat.{mul-mod_first}
use Rattle.std.proofs.lemmas.Bool.{cases_lt}
use Rattle.std.proofs.lemmas.List.Sums.{fold-append}
use Rattle.cutting.specs.Rule.{next, number_after_all}

-- what bytes add to the number after them, not reduced
unfoldable weight : List ℕ → ℕ
weight [] = 0
weight (b ∷ bs) = b * 2654435761 * 2 ^ length bs + weight bs

-- a factor may be reduced before
mod_times : (m x p s : ℕ) → (x % m * p + s) % m ≡ (x * p + s) % m
mod_times m x p s =
    sym (mod-add-mod (x % m * p) m s) ∙ ap (λ (y : ℕ). (y + s) % m) (mul-mod_first x p m) ∙ mod-add-mod (x * p) m s

-- the number from n on: n weighs twice as much with each byte
expanded : (n : ℕ) (bs : List ℕ) → fold next n bs % 2 ^ 32 ≡ (n * 2 ^ length bs + weight bs) % 2 ^ 32
unfolding weight
expanded n [] = ap (λ (y : ℕ). y % 2 ^ 32) (sym (add-zero (n * 1) ∙ mul-one n))
expanded n (b ∷ bs) =
    let p = 2 ^ length bs in
    let twice : n * 2 * p ≡ n * 2 ^ suc (length bs) = mul_assoc n 2 p ∙ ap (λ (y : ℕ). n * y) (mul_comm 2 p ∙ sym (pow-suc 2 (length bs))) in
    let parts : (n * 2 + b * 2654435761) * p + weight bs ≡ n * 2 ^ suc (length bs) + (b * 2654435761 * p + weight bs) =
    ap (λ (y : ℕ). y + weight bs) (add-mul (n * 2) (b * 2654435761) p) ∙ add_assoc _ _ _ ∙ ap (λ (y : ℕ). y + (b * 2654435761 * p + weight bs)) twice
    in
    expanded (next n b) bs ∙ mod_times (2 ^ 32) (n * 2 + b * 2654435761) p (weight bs) ∙ ap (λ (y : ℕ). y % 2 ^ 32) parts

bounded : (n : ℕ) (bs : List ℕ) → 0 < length bs → fold next n bs < 2 ^ 32
bounded n [] h = elim h [ ]
bounded n (b ∷ []) h = mod-lt (n * 2 + b * 2654435761) (lit< tt)
bounded n (b ∷ (c ∷ bs)) h = bounded (next n b) (c ∷ bs) (omega arith)

-- after 32 bytes nothing of n is left
settled : (n : ℕ) (bs : List ℕ) → 32 ≤ length bs → fold next n bs ≡ weight bs % 2 ^ 32
settled n bs h =
    let t = 2 ^ (length bs - 32) in
    let there : 0 < length bs = omega arith in
    let power : 2 ^ length bs ≡ 2 ^ 32 * t = ap (λ (k : ℕ). 2 ^ k) (omega arith) ∙ pow-add 2 32 (length bs - 32) in
    let apart : n * 2 ^ length bs ≡ 2 ^ 32 * (n * t) =
    ap (λ (y : ℕ). n * y) power ∙ sym (mul_assoc n (2 ^ 32) t) ∙ ap (λ (y : ℕ). y * t) (mul_comm n (2 ^ 32)) ∙ mul_assoc (2 ^ 32) n t
    in
    sym (mod-eq_of_lt (bounded n bs there)) ∙ expanded n bs ∙ ap (λ (y : ℕ). (y + weight bs) % 2 ^ 32) apart ∙ mul-add-mod_self_left (2 ^ 32) (n * t) (weight bs)

-- from any two numbers 32 bytes lead to the same
pub window : (m n : ℕ) (bs : List ℕ) → 32 ≤ length bs → fold next m bs ≡ fold next n bs
window m n bs h = settled m bs h ∙ sym (settled n bs h)

-- so the bytes before the last 32 may be left out
pub last_bytes : (front end : List ℕ) → 32 ≤ length end → number_after_all (front ++ end) ≡ number_after_all end
last_bytes front end h = fold-append next 0 front end ∙ window (number_after_all front) 0 end h

pub last_32 : (bytes : List ℕ) → number_after_all (drop (length bytes - 32) bytes) ≡ number_after_all bytes
last_32 bytes =
    let k = length bytes - 32 in
    ⊎_elim
    (λ (short : length bytes < 32).
    let none : length bytes - 32 ≡ 0 = omega arith in
    ap (λ (j : ℕ). number_after_all (drop j bytes)) none)
    (λ (long : 32 ≤ length bytes).
    let enough : 32 ≤ length (drop k bytes) = simp length-drop (omega arith) in
    sym (last_bytes (take k bytes) (drop k bytes) enough) ∙ ap number_after_all (take-append-drop k bytes))
    (cases_lt (length bytes) 32)
