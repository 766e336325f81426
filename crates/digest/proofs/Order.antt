-- Digests are compared as their bytes are, and that order is total: what a sort or a map of digests asks for.
-- Assumes nothing.
use Rattle.std.proofs.Common.{◌≡◌, ℕ, List, [], ◌∷◌, refl, subst, ap, arith}
use Rattle.std.specs.Cmp.{IsTotalOrder, on_total}
use Rattle.std.specs.Cmp.Lexicographic.{slice_cmp, nat_list_cmp_total, bytes_decides}
use Rattle.std.specs.Ordering.{nat_cmp}
use Rattle.std.proofs.lemmas.Bool.Decides.{nat_tests}
use Rattle.digest.specs.declared.value.Digest.{Digest}
use Rattle.digest.specs.Order.{order, TotalOrder, LibraryEquality}

-- the library's order of lists of numbers, of which the laws are known, is this order
pub lex_is_order : (xs ys : List ℕ) → slice_cmp nat_cmp xs ys ≡ order xs ys
unfolding order
lex_is_order [] [] = refl
lex_is_order [] (y ∷ ys) = refl
lex_is_order (x ∷ xs) [] = refl
lex_is_order (x ∷ xs) (y ∷ ys) = let ih = lex_is_order xs ys in grind (arith, nat_tests)

-- the order of digests is total
pub digest_order : TotalOrder
digest_order = subst IsTotalOrder (λ i (x y : Digest). lex_is_order x.bytes y.bytes i) (on_total (λ (d : Digest). d.bytes) nat_list_cmp_total)

-- digests with the same bytes are the same
pub same_bytes : LibraryEquality
same_bytes x y =
    let d = bytes_decides x.bytes y.bytes in
    (λ t. ap (λ (b : List ℕ). record { bytes = b }) (d.0 t), λ e. d.1 (ap (λ (z : Digest). z.bytes) e))
