-- Bytes of the generator, one after the other and many at a time.
-- Assumes nothing.
use Rattle.std.proofs.Common.{◌≡◌, ℕ, zero, suc, ◌+◌, ◌/◌, ◌^◌, List, [], ◌∷◌, ◌++◌, length, refl, ap, ◌∙◌, suc-add, zero-add}
use Rattle.script.specs.Generators.{advance, generated}

-- the number after n bytes
unfoldable pub advanced : ℕ → ℕ → ℕ
advanced x zero = x
advanced x (suc n) = advanced (advance x) n

-- the bytes after the first m follow from the number that is reached then
pub generated_add : (x m n : ℕ) → generated x (m + n) ≡ generated x m ++ generated (advanced x m) n
unfolding generated advanced
generated_add x zero n = ap (generated x) (zero-add n)
generated_add x (suc m) n = ap (generated x) (suc-add m n) ∙ ap (λ (l : List ℕ). (advance x / 2 ^ 56) ∷ l) (generated_add (advance x) m n)

advanced_add : (x m n : ℕ) → advanced x (m + n) ≡ advanced (advanced x m) n
unfolding advanced
advanced_add x zero n = ap (advanced x) (zero-add n)
advanced_add x (suc m) n = ap (advanced x) (suc-add m n) ∙ advanced_add (advance x) m n

-- one byte more
pub generated_more : (x n : ℕ) → generated x (n + 1) ≡ generated x n ++ ((advance (advanced x n) / 2 ^ 56) ∷ [])
unfolding generated
generated_more x n = generated_add x n 1

pub advanced_more : (x n : ℕ) → advanced x (n + 1) ≡ advance (advanced x n)
unfolding advanced
advanced_more x n = advanced_add x n 1

pub length-generated : (x n : ℕ) → length (generated x n) ≡ n
unfolding generated
length-generated x zero = refl
length-generated x (suc n) = ap suc (length-generated (advance x) n)
