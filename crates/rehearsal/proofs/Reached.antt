-- What a script has led to is reached by steps of the system, and so keeps the promise.
-- Assumes nothing.
use Rattle.std.proofs.Common.{◌≡◌, ℕ, ◌⊎◌, inl, inr, ◌∙◌, ◌||◌, Bool, true, false, List, Some, None, Option, Result, refl, sym, subst, arith}
use Rattle.std.proofs.lemmas.Grind.{common_steps, merely, not_there}
use mathlib.Core.Logic.{∥∥₁_map}
use Rattle.digest.specs.declared.value.Digest.{Digest}
use Rattle.digest.specs.Digests.{digest_of}
use Rattle.store.specs.Memories.{state_of}
use Rattle.store.specs.State.{State, same_name}
use Rattle.store.proofs.Equality.{names_decide}
use Rattle.sweeper.specs.Pieces.{IsRight, IsThere}
use Rattle.promise.specs.Runs.{Run}
use Rattle.promise.specs.Runs as runs
use Rattle.promise.specs.System as system
use Rattle.promise.specs.System.{AreMachines, start}
use Rattle.promise.proofs.Kept.{days_are_whole, seen_is_there}
use Rattle.rehearsal.specs.declared.answer.Answer.{Answer}
use Rattle.rehearsal.specs.declared.line.LineFault.{LineFault}
use Rattle.rehearsal.specs.declared.world.World.{World}
use Rattle.rehearsal.specs.Numbering.{machine_numbers}
use Rattle.rehearsal.specs.Systems.{IsReached, IsSound, LosesNothing, RunsOrDamages, is_damage, system_of}
use Rattle.rehearsal.specs.Worlds.{IsNew}

pub new_is_sound : (w : World) → IsNew w → ∥ IsSound false w ∥₁
new_is_sound w (s, m, r) =
    let is : start machine_numbers ≡ system_of w = λ j. record { store = sym s j; makes = λ i. sym (m i) j; sweeper = sym r j } in
    merely (λ e. subst (λ (v : system.World). Run (start machine_numbers) v) is runs.Run.still)

run_on : {u v w : system.World} → Run u v → Run v w → Run u w
run_on r runs.Run.still = r
run_on r (runs.Run.onward k x) = runs.Run.onward (run_on r k) x

-- what was not damaged is reached still, where a line does not damage it
pub still_sound : (d : Bool) (r : Result (Option Answer) LineFault) (w v : World) → ∥ IsSound d w ∥₁ → RunsOrDamages r w v → ∥ IsSound (d || is_damage r) v ∥₁
still_sound d r w v h k = ∥∥₁_map h (λ x e. on d (is_damage r) x k e)
  where
    on : (d b : Bool) → IsSound d w → (b ≡ true) ⊎ Run (system_of w) (system_of v) → (d || b) ≡ false → IsReached v
    on true b x k e = absurd cc
    on false true x k e = absurd cc
    on false false x (inl e) f = absurd cc
    on false false x (inr k) f = run_on (x refl) k

pub are_machines : AreMachines machine_numbers
are_machines i h = grind (arith, common_steps, h)

-- whether bytes are right can be told
right_or_not : (n : Digest) (o : Option (List ℕ)) → IsRight n o ⊎ (IsRight n o → ⊥)
right_or_not n None = inr (λ x. x)
right_or_not n (Some b) = go (same_name (digest_of b) n) refl
  where
    go : (t : Bool) → same_name (digest_of b) n ≡ t → IsRight n (Some b) ⊎ (IsRight n (Some b) → ⊥)
    go true e = inl ((names_decide (digest_of b) n).0 e)
    go false e =
        inr
        (λ h.
        let f : true ≡ false = sym ((names_decide (digest_of b) n).1 h) ∙ e in
        absurd cc)

-- so a piece is there if it cannot be missing
there : (s : State) (n : Digest) → ((IsThere s n → ⊥) → ⊥) → IsThere s n
there s n h = go (right_or_not n (s.place n)) (right_or_not n (s.aside n))
  where
    go : IsRight n (s.place n) ⊎ (IsRight n (s.place n) → ⊥) → IsRight n (s.aside n) ⊎ (IsRight n (s.aside n) → ⊥) → IsThere s n
    go (inl p) a = inl p
    go (inr p) (inl a) = inr a
    go (inr p) (inr a) = absurd (h (λ x. no x))
      where
        no : IsThere s n → ⊥
        no (inl x) = p x
        no (inr x) = a x

pub loses_nothing : (d : Bool) (r : Result (Option Answer) LineFault) (w v : World) → ∥ IsSound d w ∥₁ → RunsOrDamages r w v → (d || is_damage r) ≡ false → LosesNothing v
loses_nothing d r w v h k e n = let sound = still_sound d r w v h k in (
  λ h. there (state_of v.store) n (λ no. not_there sound (λ x. no (days_are_whole machine_numbers are_machines (system_of v) (x e) n h))),
  λ h. there (state_of v.store) n (λ no. not_there sound (λ x. no (seen_is_there machine_numbers are_machines (system_of v) (x e) n h))),
)
