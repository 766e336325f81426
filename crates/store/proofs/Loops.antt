-- Loops, go by go.
-- Assumes nothing.
use Rattle.std.proofs.Common.{◌≡◌, ℕ, suc, ◌+◌, ◌<◌, ◌≤◌, Ok, Err, refl, subst, arith}
use Rattle.cutting.specs.declared.refusal.Refusal.{Refusal}
use Rattle.store.specs.Loops.{Go, Loop, Times}

-- before the first go
pub times_none : {S U : Type 0} (go : ℕ → Go S U) (s : S) (u : U) → Times go 0 s u s u
unfolding Times
times_none go s u = (refl, refl)

-- a go more
pub times_more : {S U : Type 0} (go : ℕ → Go S U) (k : ℕ) (s m t : S) (u w v : U) → Times go k s u m w → go k m w (Ok tt) t v → Times go (k + 1) s u t v
unfolding Times
times_more go k s m t u w v h g =
    let e : suc k ≡ k + 1 = omega arith in
    subst (λ n. Times go n s u t v) e (m, w, h, g)

-- the loop is at its end
pub loop_done : {S U : Type 0} (go : ℕ → Go S U) (k n : ℕ) (s t : S) (u v : U) → k ≤ n → (k < n → ⊥) → Times go k s u t v → Loop go n s u (Ok tt) t v
unfolding Loop
loop_done go k n s t u v l e h =
    let same : k ≡ n = omega arith in
    subst (λ n. Times go n s u t v) same h

-- or it stops
pub loop_stops : {S U : Type 0} (go : ℕ → Go S U) (k n : ℕ) (s m t : S) (u w v : U) (r : Refusal) → k < n → Times go k s u m w → go k m w (Err r) t v → Loop go n s u (Err r) t v
unfolding Loop
loop_stops go k n s m t u w v r l h g = (k, l, m, w, h, g)
