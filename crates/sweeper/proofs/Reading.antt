-- What a store still holds after it was only read, again and again.
-- Assumes nothing.
use Rattle.std.proofs.Common.{◌≡◌, ℕ, zero, suc, ◌<◌, ◌∙◌, Ok, Err, ap, sym, subst, arith}
use Rattle.cutting.specs.declared.refusal.Refusal.{Refusal}
use Rattle.store.specs.State.{State}
use Rattle.sweeper.specs.Loops.{Go, Loop, Times}

-- What leaves a store that holds z with z: if it is done, what is remembered changes by R; else the refusal is one of E.
pub record Reads {S U : Type 0} (holds : S → State) (z : State) (go : Go S U) (R : U → U → Type 0) (E : Refusal → Type 0) : Type 0 where
  pub done : (s t : S) (u v : U) → holds s ≡ z → go s u (Ok tt) t v → (holds t ≡ z) × R u v
  pub stopped : (s t : S) (u v : U) (r : Refusal) → holds s ≡ z → go s u (Err r) t v → (holds t ≡ z) × E r

-- the same, in other words
pub reads_like : {S U : Type 0} {holds : S → State} {z : State} {go : Go S U} {R Q : U → U → Type 0} {E F : Refusal → Type 0} →
    ((u v : U) → R u v → Q u v) → ((r : Refusal) → E r → F r) → Reads holds z go R E → Reads holds z go Q F
reads_like f g x =
    record {
      done = λ s t u v h y. let a = x.done s t u v h y in (a.0, f u v a.1);
      stopped = λ s t u v r h y. let a = x.stopped s t u v r h y in (a.0, g r a.1);
    }

-- some go of the first n
abbrev pub Below : ℕ → (ℕ → Type 0) → Type 0
Below n P = (k : ℕ) × (k < n) × P k

module _ {S U : Type 0} (holds : S → State) (z : State) (go : ℕ → Go S U) (R : ℕ → U → U → Type 0) (E : ℕ → Refusal → Type 0)
    (P : ℕ → U → U → Type 0) (none : (u : U) → P zero u u) (more : (k : ℕ) (u w v : U) → P k u w → R k w v → P (suc k) u v) where
  times_reads : (n : ℕ) → ((k : ℕ) → k < n → Reads holds z (go k) (R k) (E k)) → (s t : S) (u v : U) → holds s ≡ z → Times go n s u t v → (holds t ≡ z) × P n u v
  unfolding Times
  times_reads zero each s t u v h (e, f) = (ap holds e ∙ h, subst (P zero u) (sym f) (none u))
  times_reads (suc n) each s t u v h (m, w, x, y) =
      let a = times_reads n (λ k l. each k (omega arith)) s m u w h x in
      let b = (each n (omega arith)).done m t w v a.0 y in
      (b.0, more n u w v a.1 b.1)

  -- a loop of such goes does so, too
  pub loop_reads : (n : ℕ) → ((k : ℕ) → k < n → Reads holds z (go k) (R k) (E k)) → Reads holds z (Loop go n) (P n) (λ r. Below n (λ k. E k r))
  unfolding Loop
  loop_reads n each =
      record {
        done = λ s t u v h x. times_reads n each s t u v h x;
        stopped = λ s t u v r h (k, l, m, w, x, y).
            let a = times_reads k (λ j i. each j (omega arith)) s m u w h x in
            let b = (each k l).stopped m t w v r a.0 y in
            (b.0, (k, l, b.1));
      }

-- if every go is refused for the same reasons, so is the loop
pub loop_alike : {S U : Type 0} (holds : S → State) (z : State) (go : ℕ → Go S U) (R : ℕ → U → U → Type 0) (E : Refusal → Type 0)
    (P : ℕ → U → U → Type 0) → ((u : U) → P zero u u) → ((k : ℕ) (u w v : U) → P k u w → R k w v → P (suc k) u v)
    → (n : ℕ) → ((k : ℕ) → k < n → Reads holds z (go k) (R k) E) → Reads holds z (Loop go n) (P n) E
loop_alike holds z go R E P none more n each = reads_like (λ u v a. a) (λ r (k, l, x). x) (loop_reads holds z go R (λ k. E) P none more n each)
