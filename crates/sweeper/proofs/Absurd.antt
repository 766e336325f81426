-- What cannot be.
-- Assumes nothing.
use Rattle.std.proofs.Common.{◌≡◌, ◌∙◌, ℕ, Bool, true, false, is_some, IsSome, [], Some, None, Ok, Err, Option, Result, ap, sym}
use Rattle.cutting.specs.declared.refusal.Refusal.{Refusal}
use Rattle.cutting.specs.declared.refusal.Refusal.TheVariants.{NoMemory}
use Rattle.cutting.specs.Refusals.{number_of}
use Rattle.digest.specs.declared.value.Digest.{Digest}
use Rattle.store.specs.State.{is_in}
use Rattle.sweeper.specs.declared.done.Done.{Done}

-- a test that is true and false
pub clash : {A : Type 0} {b : Bool} → b ≡ true → b ≡ false → A
clash e f = absurd cc

-- none, that is some
pub none_is_some : {A T : Type 0} (o : Option T) → o ≡ None → IsSome o → A
none_is_some o e i = clash i (ap is_some e)

-- a name in the list of none
pub in_none : {A : Type 0} (q : Digest) → is_in q [] ≡ true → A
in_none q e = clash {b = false} e (λ i. false)

-- a refusal with a number, for want of memory
pub numbered : {A : Type 0} (r : Refusal) (k : ℕ) → number_of r ≡ Some k → r ≡ NoMemory → A
numbered r k e f =
    let g : None ≡ Some k = sym (ap number_of f) ∙ e in
    absurd cc

-- a step that is done, and refused
pub done_refused : {A : Type 0} (d : Done) (r : Refusal) → ◌≡◌ {A = Result Done Refusal} (Ok d) (Err r) → A
done_refused d r e = absurd cc
