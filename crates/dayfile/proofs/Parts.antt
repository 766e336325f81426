-- The parts of a day file: what stands before its digest, and behind the name of the day.
-- Assumes nothing.
use Rattle.std.proofs.Common.{◌≡◌, ℕ, ◌-◌, ◌≤◌, Bool, true, false, not, List, [], ◌∷◌, ◌++◌, length, get_or, take, drop, Some, refl, sym, ap, ◌∙◌, ◌<◌, ◌^◌, suc, arith}
use Rattle.std.proofs.lemmas.List.{drop_at, length-append, take-append-drop, take_at, take_rest}
use Rattle.std.proofs.lemmas.Slice.Eq.{bytes_eq-Decides}
use Rattle.std.specs.Cmp.Lexicographic.{pointwise}
use Rattle.std.specs.Int.{w32}
use Rattle.std.specs.Prelude.{nat_eq}
use Rattle.digest.specs.Digests.{digest_of}
use Rattle.store.specs.declared.day.DayName.{DayName}
use Rattle.dayfile.specs.Reading.{number_at}
use Rattle.dayfile.specs.Reads.{head}
use Rattle.dayfile.proofs.Fields.{IsBytes, number_takes, wide32}
use Rattle.dayfile.proofs.OneForm.{digest_length}

-- where the last 32 bytes are the digest of the others
pub is_signed : (bytes body end : List ℕ) → body ≡ take (length bytes - 32) bytes → end ≡ drop (length bytes - 32) bytes → not (pointwise nat_eq (digest_of body).bytes end) ≡ false → bytes ≡ body ++ (digest_of body).bytes
is_signed bytes body end front back same = go (pointwise nat_eq (digest_of body).bytes end) refl same
  where
    go : (b : Bool) → pointwise nat_eq (digest_of body).bytes end ≡ b → not b ≡ false → bytes ≡ body ++ (digest_of body).bytes
    go false e n = absurd cc
    go true e n =
        let digest : (digest_of body).bytes ≡ end = (bytes_eq-Decides (digest_of body).bytes end).0 e in
        rw (digest, front, back) (sym (take-append-drop (length bytes - 32) bytes))

-- where they are not
pub is_not_signed : (bytes body end : List ℕ) → body ≡ take (length bytes - 32) bytes → end ≡ drop (length bytes - 32) bytes → not (pointwise nat_eq (digest_of body).bytes end) ≡ true → (b : List ℕ) → bytes ≡ b ++ (digest_of b).bytes → ⊥
is_not_signed bytes body end front back other b e =
    let long : length b ≡ length bytes - 32 = omega (arith, digest_length b, length-append b (digest_of b).bytes, ap length e) in
    let whole : body ≡ b = front ∙ ap (take (length bytes - 32)) e ∙ take_at b (digest_of b).bytes (length bytes - 32) long in
    let last : end ≡ (digest_of b).bytes = back ∙ ap (drop (length bytes - 32)) e ∙ drop_at b (digest_of b).bytes (length bytes - 32) long in
    let equal : pointwise nat_eq (digest_of body).bytes end ≡ true = (bytes_eq-Decides (digest_of body).bytes end).1 (ap (λ x. (digest_of x).bytes) whole ∙ sym last) in
    let no : not true ≡ true = rw equal at other in
    absurd cc

-- where there are fewer
pub is_short : (bytes : List ℕ) → length bytes < 32 → (b : List ℕ) → bytes ≡ b ++ (digest_of b).bytes → ⊥
is_short bytes few b e = absurd (omega (arith, digest_length b, length-append b (digest_of b).bytes, ap length e))

-- where the name of the day is read
pub head_takes : (d : DayName) (bytes rest : List ℕ) → IsBytes bytes → 2 ≤ length bytes → get_or bytes 0 0 ≡ 68 → get_or bytes 1 0 ≡ d.machine → number_at w32 (take (length bytes - 2) (drop 2 bytes)) ≡ Some (d.number, rest)
    → bytes ≡ head d ++ rest
head_takes d [] rest fits two first machine number = absurd (omega arith)
head_takes d (x ∷ []) rest fits two first machine number = absurd (omega arith)
head_takes d (x ∷ y ∷ bytes) rest fits two first machine number =
    let read : number_at w32 bytes ≡ Some (d.number, rest) = ap (number_at w32) (sym (take_rest (x ∷ y ∷ bytes) 2)) ∙ number in
    let parts = (number_takes w32 (2 ^ 32) wide32 bytes (d.number, rest) (λ i. fits (suc (suc i))) read).parts in
    rw (first, machine) (ap (λ r. 68 ∷ d.machine ∷ r) parts)
