-- What was asked of a store, and in which order.
-- Assumes nothing.
use Rattle.std.specs.Prelude.{◌≡◌, ◌≢◌, ◌⊎◌, ℕ, true, false, List, [], ◌∷◌, Some, Ok, Err, Option, Result, Bool}
use Rattle.cutting.specs.declared.refusal.Refusal.{Refusal}
use Rattle.cutting.specs.declared.refusal.Refusal.TheVariants.{Unknown}
use Rattle.digest.specs.declared.value.Digest.{Digest}
use Rattle.store.specs.declared.piece.Spot.TheVariants.{Place}
use Rattle.store.specs.Asking.{Doing}
use Rattle.store.specs.Requests.{Request, HasMachine, Read, Answer, Told, Bytes, Refused}

-- these requests were given these answers, one after the other
abbrev pub Asked : {S : Type 0} → Doing S → S → List (Request × Answer) → S → Type 0
Asked does s [] t = t ≡ s
Asked {S} does s (x ∷ xs) t = (m : S) × does s x.0 x.1 m × Asked does m xs t

-- the store says that the machine is on its list
abbrev pub on_list : ℕ → Request × Answer
on_list i = (HasMachine i, Told true)

-- the store says that it is not, or does not say
abbrev pub NotOnList : {S : Type 0} → Doing S → ℕ → S → Refusal → S → Type 0
NotOnList does i s r t = (Asked does s ((HasMachine i, Told false) ∷ []) t × (r ≡ Unknown)) ⊎ Asked does s ((HasMachine i, Refused r) ∷ []) t

-- these bytes lie in the place of a name, or none do
abbrev pub in_place : Digest → Option (List ℕ) → Request × Answer
in_place n bytes = (Read Place n, Bytes bytes)

-- whether the very bytes of a piece lie in its place
abbrev pub Finds : {S : Type 0} → Doing S → Digest → List ℕ → S → Result Bool Refusal → S → Type 0
Finds does n piece s (Ok true) t = Asked does s (in_place n (Some piece) ∷ []) t
Finds does n piece s (Ok false) t = (b : Option (List ℕ)) × (b ≢ Some piece) × Asked does s (in_place n b ∷ []) t
Finds does n piece s (Err r) t = Asked does s ((Read Place n, Refused r) ∷ []) t
