-- What an exact store tells that holds z: it is so of z, and the store still holds z.
-- Assumes nothing.
use Rattle.std.proofs.Common.{◌≡◌, ◌∙◌, ℕ, inl, inr, Bool, true, false, List, Some, None, Option, ap, sym, refl}
use Rattle.cutting.specs.declared.refusal.Refusal.{Refusal}
use Rattle.cutting.specs.declared.refusal.Refusal.TheVariants.{NoMemory}
use Rattle.digest.specs.declared.value.Digest.{Digest}
use Rattle.store.specs.declared.day.DayName.{DayName}
use Rattle.store.specs.declared.piece.Spot.{Spot}
use Rattle.store.specs.Asking.{Doing, IsExact}
use Rattle.store.specs.Effects.{Does, effect, lies, put_aside, put_back}
use Rattle.store.specs.Requests.{Request, HasMachine, Read, Enlist, Highest, NameDay, LetGo, PutAside, PutBack, NamesOf, OwnNames, EnlistOwn, ReadDay, Answer, Told, Bytes, Number, Refused}
use Rattle.store.specs.State.{State}
use Rattle.store.proofs.Exact.{highest, read, read_day, refused, told}
use Rattle.sweeper.proofs.Absurd.{clash}

-- it is refused for want of memory
abbrev pub IsNoMemory : Refusal → Type 0
IsNoMemory r = r ≡ NoMemory

-- the requests that are refused for nothing else
abbrev pub is_plain : Request → Bool
is_plain (Enlist l) = false
is_plain (EnlistOwn n) = false
is_plain (NameDay d ps) = false
is_plain (LetGo d) = false
is_plain other = true

abbrev is_refusal : Answer → Bool
is_refusal (Refused r) = true
is_refusal other = false

-- since their effects are no refusals
aside_is_none : (n : Digest) (o : Option (List ℕ)) (s : State) → is_refusal (put_aside n o s).0 ≡ false
aside_is_none n None s = refl
aside_is_none n (Some x) s = refl

back_is_none : (n : Digest) (o : Option (List ℕ)) (s : State) → is_refusal (put_back n o s).0 ≡ false
back_is_none n None s = refl
back_is_none n (Some x) s = refl

no_refusal : (s : State) (q : Request) → is_plain q ≡ true → is_refusal (effect s q).0 ≡ false
no_refusal s (PutAside n) p = aside_is_none n (s.place n) s
no_refusal s (PutBack n) p = back_is_none n (s.aside n) s
no_refusal s (Enlist l) p = clash {b = false} p refl
no_refusal s (EnlistOwn n) p = clash {b = false} p refl
no_refusal s (NameDay d ps) p = clash {b = false} p refl
no_refusal s (LetGo d) p = clash {b = false} p refl
no_refusal s other p = refl

only_memory : (s t : State) (q : Request) (r : Refusal) → is_plain q ≡ true → Does s q (Refused r) t → IsNoMemory r
only_memory s t (NamesOf i) r p h = h.0
only_memory s t OwnNames r p h = h.0
only_memory s t q r p (inr h) =
    let f : Refused r ≡ Refused NoMemory = h.1 in
    cc
only_memory s t q r p (inl e) = clash (ap (λ x. is_refusal x.0) e) (no_refusal s q p)

module _ {S : Type 0} (does : Doing S) (holds : S → State) (exact : IsExact holds does) where
  -- a refusal changes nothing
  pub unmoved : (s t : S) (q : Request) (r : Refusal) → does s q (Refused r) t → holds t ≡ holds s
  unmoved s t q r x = refused _ _ q r (exact s t q _ x)

  pub for_memory : (s t : S) (q : Request) (r : Refusal) → is_plain q ≡ true → does s q (Refused r) t → IsNoMemory r
  for_memory s t q r p x = only_memory _ _ q r p (exact s t q _ x)

  module _ (z : State) (s t : S) (h : holds s ≡ z) where
    -- nothing is told
    pub not_told : (q : Request) (r : Refusal) → is_plain q ≡ true → does s q (Refused r) t → (holds t ≡ z) × IsNoMemory r
    not_told q r p x = (unmoved s t q r x ∙ h, for_memory s t q r p x)

    pub told_bytes : (spot : Spot) (n : Digest) (b : Option (List ℕ)) → does s (Read spot n) (Bytes b) t → (holds t ≡ z) × (lies spot z n ≡ b)
    told_bytes spot n b x = let k = read _ _ spot n b (exact s t _ _ x) in (k.0 ∙ h, ap (λ w. lies spot w n) (sym h) ∙ k.1)

    pub told_day : (d : DayName) (b : Option (List ℕ)) → does s (ReadDay d) (Bytes b) t → (holds t ≡ z) × (z.days d ≡ b)
    told_day d b x = let k = read_day _ _ d b (exact s t _ _ x) in (k.0 ∙ h, ap (λ (w : State). w.days d) (sym h) ∙ k.1)

    pub told_highest : (i n : ℕ) → does s (Highest i) (Number n) t → (holds t ≡ z) × (z.highest i ≡ n)
    told_highest i n x = let k = highest _ _ i n (exact s t _ _ x) in (k.0 ∙ h, ap (λ (w : State). w.highest i) (sym h) ∙ k.1)

    pub told_machine : (i : ℕ) (b : Bool) → does s (HasMachine i) (Told b) t → (holds t ≡ z) × (z.machines i ≡ b)
    told_machine i b x = let k = told _ _ i b (exact s t _ _ x) in (k.0 ∙ h, ap (λ (w : State). w.machines i) (sym h) ∙ k.1)
