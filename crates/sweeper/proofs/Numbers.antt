-- What is noted of the highest numbers.
-- Assumes nothing.
use Rattle.std.proofs.Common.{◌≡◌, ℕ, suc, ◌<◌, ◌⊎◌, inl, inr, ◌∙◌, List, length, get_or, replicate, slice_set, Ok, Err, ap, sym, subst, refl, arith}
use Rattle.std.proofs.lemmas.List.{get_or-set_other, get_or-set_same, length-replicate, length-set}
use Rattle.std.proofs.lemmas.Option.{unwrap_or-slice_get}
use Rattle.cutting.specs.declared.refusal.Refusal.{Refusal}
use Rattle.store.specs.declared.sweep.Noted.{Noted}
use Rattle.store.specs.Asking.{Doing, IsExact}
use Rattle.store.specs.State.{State, most_machines}
use Rattle.sweeper.specs.Looking.{NotesAll, NotesOne}
use Rattle.sweeper.specs.Steps.{Numbers}
use Rattle.sweeper.specs.Sweepers.{noted_of}
use Rattle.sweeper.proofs.Reading.{Reads, loop_alike}
use Rattle.sweeper.proofs.Told.{IsNoMemory, not_told, told_highest}

-- the numbers below n are the highest of their machines
abbrev NotedBelow : State → ℕ → List ℕ → List ℕ → Type 0
NotedBelow z n u v = (length v ≡ length u) × ((i : ℕ) → i < n → i < length u → get_or v i 0 ≡ z.highest i)

-- and then one more
noted_more : (z : State) (k : ℕ) (u w v : List ℕ) → NotedBelow z k u w → v ≡ slice_set w k (z.highest k) → NotedBelow z (suc k) u v
noted_more z k u w v (n, a) e = (ap length e ∙ (length-set w k (z.highest k) ∙ n), λ i l j. at i j (grind arith))
  where
    at : (i : ℕ) → i < length u → (i < k) ⊎ (i ≡ k) → get_or v i 0 ≡ z.highest i
    at i j (inl l) = ap (λ x. get_or x i 0) e ∙ (get_or-set_other w k i (z.highest k) 0 (omega arith) ∙ a i l j)
    at i j (inr f) =
        let m : k < length w = omega arith in
        ap (λ x. get_or x i 0) e ∙ (ap (λ x. get_or (slice_set w k (z.highest k)) x 0) f ∙ (get_or-set_same w k (z.highest k) 0 m ∙ ap z.highest (sym f)))

module _ {S : Type 0} (does : Doing S) (holds : S → State) (exact : IsExact holds does) (z : State) where
  -- one is noted; all are
  notes_one : (i : ℕ) → Reads holds z (NotesOne does i) (λ u v. v ≡ slice_set u i (z.highest i)) IsNoMemory
  notes_one i =
      record {
        done = λ s t u v h (n, x, e). let k = told_highest does holds exact z s t h i n x in (k.0, e ∙ ap (slice_set u i) (sym k.1));
        stopped = λ s t u v r h x. not_told does holds exact z s t h _ r refl x;
      }

  notes_all : Reads holds z (NotesAll does) (NotedBelow z most_machines) IsNoMemory
  notes_all =
      loop_alike holds z (NotesOne does) (λ i u v. v ≡ slice_set u i (z.highest i)) IsNoMemory (NotedBelow z)
      (λ u. (refl, λ i l j. absurd (omega arith))) (noted_more z) most_machines (λ i l. notes_one i)

  -- what is noted then, or why nothing is
  pub numbers : (h : Noted) (s t : S) → holds s ≡ z → Numbers does s (Ok h) t → (holds t ≡ z) × ((i : ℕ) → i < most_machines → noted_of h i ≡ z.highest i)
  numbers h s t e x =
      let a = notes_all.done s t _ _ e x in
      let n : length {A = ℕ} (replicate most_machines 0) ≡ most_machines = length-replicate {A = ℕ} most_machines 0 in
      (a.0, λ i l. unwrap_or-slice_get h.highest i 0 ∙ a.1.1 i l (subst (λ k. i < k) (sym n) l))

  pub no_numbers : (s t : S) (r : Refusal) → holds s ≡ z → Numbers does s (Err r) t → (holds t ≡ z) × IsNoMemory r
  no_numbers s t r e (v, x) = notes_all.stopped s t _ v r e x
