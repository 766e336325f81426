-- Whether a piece of a day is there, and that it is remembered.
-- Assumes nothing.
use Rattle.std.proofs.Common.{◌≡◌, ◌⊎◌, inl, inr, ◌∙◌, true, false, Bool, List, Ok, Err, ap, sym, subst, refl}
use Rattle.cutting.specs.declared.refusal.Refusal.{Refusal}
use Rattle.cutting.specs.declared.refusal.Refusal.TheVariants.{BadDay}
use Rattle.digest.specs.declared.value.Digest.{Digest}
use Rattle.store.specs.declared.piece.Spot.{Spot}
use Rattle.store.specs.declared.piece.Spot.TheVariants.{Place, Aside}
use Rattle.store.specs.Asking.{Doing, IsExact}
use Rattle.store.specs.Effects.{lies}
use Rattle.store.specs.State.{State, is_in}
use Rattle.sweeper.specs.Looking.{AddsPiece, Checks, ReadsRight}
use Rattle.sweeper.specs.Pieces.{IsRight, IsThere}
use Rattle.sweeper.proofs.Absurd.{clash}
use Rattle.sweeper.proofs.Adding.{Adds, adds_none, adds_one}
use Rattle.sweeper.proofs.Reading.{Reads}
use Rattle.sweeper.proofs.Told.{IsNoMemory, not_told, told_bytes}

-- all of a list are there
abbrev pub AllThere : State → List Digest → Type 0
AllThere z ns = (q : Digest) → is_in q ns ≡ true → IsThere z q

-- all names of P were added, and no others, and they were there
abbrev pub AddsThere : State → (Digest → Type 0) → List Digest → List Digest → Type 0
AddsThere z P u v = Adds P u v × (AllThere z u → AllThere z v)

-- why one is not checked: memory is wanting, or it is not there
abbrev pub Misses : State → Digest → Refusal → Type 0
Misses z n r = IsNoMemory r ⊎ ((r ≡ BadDay) × (IsThere z n → ⊥))

module _ {S : Type 0} (does : Doing S) (holds : S → State) (exact : IsExact holds does) (z : State) where
  -- what lies in a spot, read right or not
  reads_right : (spot : Spot) (n : Digest) (s t : S) (b : Bool) → holds s ≡ z → ReadsRight does spot n s (Ok b) t → (holds t ≡ z) × (b ≡ true → IsRight n (lies spot z n)) × (IsRight n (lies spot z n) → b ≡ true)
  reads_right spot n s t b h (x, asked, d) =
      let k = told_bytes does holds exact z s t h spot n x asked in
      (k.0, λ y. subst (IsRight n) (sym k.1) (d.0 y), λ y. d.1 (subst (IsRight n) k.1 y))

  -- a piece is there, or why it is not
  checks : (n : Digest) (s t : S) → holds s ≡ z → Checks does n s (Ok tt) t → (holds t ≡ z) × IsThere z n
  checks n s t h (inl x) = let a = reads_right Place n s t true h x in (a.0, inl (a.1 refl))
  checks n s t h (inr (m, x, y)) =
      let a = reads_right Place n s m false h x in
      let b = reads_right Aside n m t true a.0 y in
      (b.0, inr (b.1 refl))

  checks_not : (n : Digest) (s t : S) (r : Refusal) → holds s ≡ z → Checks does n s (Err r) t → (holds t ≡ z) × Misses z n r
  checks_not n s t r h (inl x) = let a = not_told does holds exact z s t h _ r refl x in (a.0, inl a.1)
  checks_not n s t r h (inr (m, x, inl y)) =
      let a = reads_right Place n s m false h x in
      let b = not_told does holds exact z m t a.0 _ r refl y in
      (b.0, inl b.1)
  checks_not n s t r h (inr (m, x, inr (y, e))) =
      let a = reads_right Place n s m false h x in
      let b = reads_right Aside n m t false a.0 y in
      (b.0, inr (e, none (λ p. clash (a.2 p) refl) (λ p. clash (b.2 p) refl)))
    where
      none : (IsRight n (z.place n) → ⊥) → (IsRight n (z.aside n) → ⊥) → IsThere z n → ⊥
      none p q (inl k) = p k
      none p q (inr k) = q k

  -- it is remembered, then
  pub adds_piece : (n : Digest) → Reads holds z (AddsPiece does n) (AddsThere z (λ q. q ≡ n)) (Misses z n)
  adds_piece n =
      record {
        done = done;
        stopped = λ s t u v r h x. stopped s t r h x.1;
      }
    where
      there : (u : List Digest) → IsThere z n → AllThere z u → (q : Digest) → (is_in q u ≡ true) ⊎ (q ≡ n) → IsThere z q
      there u i a q (inl x) = a q x
      there u i a q (inr e) = subst (IsThere z) (sym e) i

      done : (s t : S) (u v : List Digest) → holds s ≡ z → AddsPiece does n s u (Ok tt) t v → (holds t ≡ z) × AddsThere z (λ q. q ≡ n) u v
      done s t u v h (inl (x, e, f)) =
          (ap holds e ∙ h, subst (AddsThere z (λ q. q ≡ n) u) (sym f) (adds_none _ u (λ q k. subst (λ w. is_in w u ≡ true) (sym k) x), λ a. a))
      done s t u v h (inr (x, c, f)) =
          let k = checks n s t h c in
          let a : Adds (λ q. q ≡ n) u v = subst (Adds (λ q. q ≡ n) u) (sym f) (adds_one (λ q. q ≡ n) n u refl (λ q e. e)) in
          (k.0, (a, λ w q y. there u k.1 w q (a.only q y)))

      stopped : (s t : S) (r : Refusal) → holds s ≡ z → Checks does n s (Err r) t ⊎ (Checks does n s (Ok tt) t × IsNoMemory r) → (holds t ≡ z) × Misses z n r
      stopped s t r h (inl x) = checks_not n s t r h x
      stopped s t r h (inr (x, e)) = ((checks n s t h x).0, inl e)
