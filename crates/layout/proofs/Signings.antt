-- Bytes with their digest behind them, as they are read.
-- Assumes nothing.
use Rattle.std.proofs.Common.{◌≡◌, ℕ, ◌+◌, ◌-◌, ◌<◌, Bool, true, false, not, List, length, take, drop, refl, sym, ap, ◌∙◌, arith}
use Rattle.std.proofs.lemmas.List.{drop_at, length-append, take-append-drop, take_at}
use Rattle.std.proofs.lemmas.Slice.Eq.{bytes_eq-Decides}
use Rattle.std.specs.Cmp.Lexicographic.{pointwise}
use Rattle.std.specs.Prelude.{nat_eq}
use Rattle.digest.specs.Digests.{digest_of}
use Rattle.dayfile.proofs.OneForm.{digest_length}
use Rattle.layout.specs.Signed.{signed}

pub length-signed : (b : List ℕ) → length (signed b) ≡ length b + 32
length-signed b = omega (arith, digest_length b, length-append b (digest_of b).bytes)

-- where the last 32 bytes are the digest of the others
pub is_signed : (bytes body end : List ℕ) → body ≡ take (length bytes - 32) bytes → end ≡ drop (length bytes - 32) bytes → not (pointwise nat_eq (digest_of body).bytes end) ≡ false → bytes ≡ signed body
is_signed bytes body end front back same = go (pointwise nat_eq (digest_of body).bytes end) refl same
  where
    go : (b : Bool) → pointwise nat_eq (digest_of body).bytes end ≡ b → not b ≡ false → bytes ≡ signed body
    go false e n = absurd cc
    go true e n =
        let digest : (digest_of body).bytes ≡ end = (bytes_eq-Decides (digest_of body).bytes end).0 e in
        rw (digest, front, back) (sym (take-append-drop (length bytes - 32) bytes))

-- where they are not
pub is_not_signed : (bytes body end : List ℕ) → body ≡ take (length bytes - 32) bytes → end ≡ drop (length bytes - 32) bytes → not (pointwise nat_eq (digest_of body).bytes end) ≡ true → (b : List ℕ) → bytes ≡ signed b → ⊥
is_not_signed bytes body end front back other b e =
    let long : length b ≡ length bytes - 32 = omega (arith, length-signed b, ap length e) in
    let whole : body ≡ b = front ∙ ap (take (length bytes - 32)) e ∙ take_at b (digest_of b).bytes (length bytes - 32) long in
    let last : end ≡ (digest_of b).bytes = back ∙ ap (drop (length bytes - 32)) e ∙ drop_at b (digest_of b).bytes (length bytes - 32) long in
    let equal : pointwise nat_eq (digest_of body).bytes end ≡ true = (bytes_eq-Decides (digest_of body).bytes end).1 (ap (λ x. (digest_of x).bytes) whole ∙ sym last) in
    let no : not true ≡ true = rw equal at other in
    absurd cc

-- where there are fewer
pub is_short : (bytes : List ℕ) → length bytes < 32 → (b : List ℕ) → bytes ≡ signed b → ⊥
is_short bytes few b e = absurd (omega (arith, length-signed b, ap length e))
