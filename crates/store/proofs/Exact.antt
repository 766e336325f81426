-- What is known of a store after a request, from its effect.
-- Assumes nothing.
use Rattle.std.proofs.Common.{◌≡◌, ℕ, ◌<◌, ◌⊎◌, ◌∙◌, inl, inr, ap, sym, refl, arith, true, false, Bool, nat_le, is_some, IsSome, List, Some, None, Option}
use Rattle.std.proofs.lemmas.Grind.{common_steps}
use Rattle.cutting.specs.declared.refusal.Refusal.{Refusal}
use Rattle.cutting.specs.declared.refusal.Refusal.TheVariants.{NoMemory, TooManyNames, DayIsThere, Unknown}
use Rattle.digest.specs.declared.value.Digest.{Digest}
use Rattle.store.specs.declared.day.DayName.{DayName}
use Rattle.store.specs.declared.listing.Listing.{Listing}
use Rattle.store.specs.declared.piece.Spot.{Spot}
use Rattle.store.specs.declared.sweep.Sweep.{Sweep}
use Rattle.store.specs.Effects as effects
use Rattle.store.specs.Effects.{Does, enlist, lies, with_aside, with_day, with_highest, with_listing, with_own, with_place, with_sweep}
use Rattle.store.specs.Requests.{Request, HasMachine, Read, Enlist, Write, Highest, Raise, NameDay, LetGo, PutAside, PutBack, ThrowAway, NamesOf, OwnNames, EnlistOwn, ReadDay, Kept, Keep, Answer, Done, Told, Bytes, Number, Names, Sweeping, Refused}
use Rattle.store.specs.State.{State, is_in, most_names}

-- the two parts of an effect
answer_is : {p : Answer × State} {a : Answer} {t : State} → p ≡ (a, t) → p.0 ≡ a
answer_is e = ap (λ x. x.0) e

state_is : {p : Answer × State} {a : Answer} {t : State} → p ≡ (a, t) → p.1 ≡ t
state_is e = ap (λ x. x.1) e

abbrev is_refused : Answer → Bool
is_refused (Refused r) = true
is_refused other = false

not_refused : (a : Answer) (r : Refusal) → is_refused a ≡ false → a ≡ Refused r → ⊥
not_refused a r n e =
    let f : true ≡ false = sym (ap is_refused e) ∙ n in
    cc

-- a request that is not refused has its effect
did : {p : Answer × State} {w : Bool} {s t : State} (a : Answer) → is_refused a ≡ false → (p ≡ (a, t)) ⊎ ((w ≡ true) × (a ≡ Refused NoMemory) × (t ≡ s)) → (p.0 ≡ a) × (p.1 ≡ t)
did a n (inl e) = (answer_is e, state_is e)
did a n (inr h) = absurd (not_refused a NoMemory n h.1)

pub told : (s t : State) (i : ℕ) (b : Bool) → Does s (HasMachine i) (Told b) t → (t ≡ s) × (s.machines i ≡ b)
told s t i b x =
    let e = did (Told b) refl x in
    let f : Told (s.machines i) ≡ Told b = e.0 in
    (sym e.1, cc)

pub read : (s t : State) (spot : Spot) (n : Digest) (b : Option (List ℕ)) → Does s (Read spot n) (Bytes b) t → (t ≡ s) × (lies spot s n ≡ b)
read s t spot n b x =
    let e = did (Bytes b) refl x in
    let f : Bytes (lies spot s n) ≡ Bytes b = e.0 in
    (sym e.1, cc)

pub highest : (s t : State) (i n : ℕ) → Does s (Highest i) (Number n) t → (t ≡ s) × (s.highest i ≡ n)
highest s t i n x =
    let e = did (Number n) refl x in
    let f : Number (s.highest i) ≡ Number n = e.0 in
    (sym e.1, cc)

pub wrote : (s t : State) (n : Digest) (b : List ℕ) → Does s (Write n b) Done t → with_place n (Some b) s ≡ t
wrote s t n b x = (did Done refl x).1

pub raised : (s t : State) (i n : ℕ) → Does s (Raise i n) Done t → with_highest i n s ≡ t
raised s t i n x = (did Done refl x).1

-- a name that was in a list already, or is now
abbrev pub Enlists : Bool → State → State → State → Type 0
Enlists there s more t = ((there ≡ true) × (s ≡ t)) ⊎ ((there ≡ false) × (s.names < most_names) × (more ≡ t))

enlists : (there : Bool) (s more t : State) → ((enlist there s more).0 ≡ Done) × ((enlist there s more).1 ≡ t) → Enlists there s more t
enlists true s more t e = inl (refl, e.1)
enlists false s more t e = go (nat_le most_names s.names) refl
  where
    go : (c : Bool) → nat_le most_names s.names ≡ c → Enlists false s more t
    go true k =
        let f : Refused TooManyNames ≡ Done = rw k at e.0 in
        absurd cc
    go false k = inr (refl, grind (arith, common_steps, k), rw k at e.1)

abbrev pub Enlisted : State → Listing → State → Type 0
Enlisted s l t = Enlists (s.listed l) s (with_listing l s) t

abbrev pub EnlistedOwn : State → Digest → State → Type 0
EnlistedOwn s n t = Enlists (s.own n) s (with_own n s) t

pub enlisted : (s t : State) (l : Listing) → Does s (Enlist l) Done t → Enlisted s l t
enlisted s t l x = enlists (s.listed l) s (with_listing l s) t (did Done refl x)

pub enlisted_own : (s t : State) (n : Digest) → Does s (EnlistOwn n) Done t → EnlistedOwn s n t
enlisted_own s t n x = enlists (s.own n) s (with_own n s) t (did Done refl x)

-- all names of a list, and no others
pub names_of : (s t : State) (m : ℕ) (ns : List Digest) → Does s (NamesOf m) (Names ns) t → (t ≡ s) × ((n : Digest) → is_in n ns ≡ s.listed (record { machine = m; name = n }))
names_of s t m ns x = (x.1, x.0)

pub own_names : (s t : State) (ns : List Digest) → Does s OwnNames (Names ns) t → (t ≡ s) × ((n : Digest) → is_in n ns ≡ s.own n)
own_names s t ns x = (x.1, x.0)

-- what was put aside, put back or thrown away, if there was anything
puts_aside : (n : Digest) (o : Option (List ℕ)) (s : State) → (effects.put_aside n o s).0 ≡ Told (is_some o)
puts_aside n None s = refl
puts_aside n (Some b) s = refl

puts_back : (n : Digest) (o : Option (List ℕ)) (s : State) → (effects.put_back n o s).0 ≡ Told (is_some o)
puts_back n None s = refl
puts_back n (Some b) s = refl

pub put_aside : (s t : State) (n : Digest) (b : Bool) → Does s (PutAside n) (Told b) t → (b ≡ is_some (s.place n)) × ((effects.put_aside n (s.place n) s).1 ≡ t)
put_aside s t n b x =
    let e = did (Told b) refl x in
    let f : Told b ≡ Told (is_some (s.place n)) = sym e.0 ∙ puts_aside n (s.place n) s in
    (cc, e.1)

pub put_back : (s t : State) (n : Digest) (b : Bool) → Does s (PutBack n) (Told b) t → (b ≡ is_some (s.aside n)) × ((effects.put_back n (s.aside n) s).1 ≡ t)
put_back s t n b x =
    let e = did (Told b) refl x in
    let f : Told b ≡ Told (is_some (s.aside n)) = sym e.0 ∙ puts_back n (s.aside n) s in
    (cc, e.1)

pub threw : (s t : State) (n : Digest) (b : Bool) → Does s (ThrowAway n) (Told b) t → (b ≡ is_some (s.aside n)) × (with_aside n None s ≡ t)
threw s t n b x =
    let e = did (Told b) refl x in
    let f : Told b ≡ Told (is_some (s.aside n)) = sym e.0 in
    (cc, e.1)

pub named : (s t : State) (d : DayName) (ps : List ℕ) → Does s (NameDay d ps) Done t → (s.days d ≡ None) × (with_day d (Some ps) s ≡ t)
named s t d ps x = go (s.days d) refl
  where
    go : (o : Option (List ℕ)) → s.days d ≡ o → (s.days d ≡ None) × (with_day d (Some ps) s ≡ t)
    go None h = (h, rw h at (did Done refl x).1)
    go (Some y) h =
        let f : Refused DayIsThere ≡ Done = rw h at (did Done refl x).0 in
        absurd cc

pub gone : (s t : State) (d : DayName) → Does s (LetGo d) Done t → IsSome (s.days d) × (with_day d None s ≡ t)
gone s t d x = go (s.days d) refl
  where
    go : (o : Option (List ℕ)) → s.days d ≡ o → IsSome (s.days d) × (with_day d None s ≡ t)
    go (Some y) h = (rw h refl, rw h at (did Done refl x).1)
    go None h =
        let f : Refused Unknown ≡ Done = rw h at (did Done refl x).0 in
        absurd cc

pub read_day : (s t : State) (d : DayName) (b : Option (List ℕ)) → Does s (ReadDay d) (Bytes b) t → (t ≡ s) × (s.days d ≡ b)
read_day s t d b x =
    let e = did (Bytes b) refl x in
    let f : Bytes (s.days d) ≡ Bytes b = e.0 in
    (sym e.1, cc)

-- what is kept of what the sweeper does
pub kept : (s t : State) (w : Sweep) → Does s Kept (Sweeping w) t → (t ≡ s) × (s.sweep ≡ w)
kept s t w x =
    let e = did (Sweeping w) refl x in
    let f : Sweeping s.sweep ≡ Sweeping w = e.0 in
    (sym e.1, cc)

pub keep : (s t : State) (w : Sweep) → Does s (Keep w) Done t → with_sweep w s ≡ t
keep s t w x = (did Done refl x).1

-- a refusal changes nothing
not_enlisted : (there : Bool) (s more t : State) (r : Refusal) → enlist there s more ≡ (Refused r, t) → t ≡ s
not_enlisted true s more t r e = sym (state_is e)
not_enlisted false s more t r e = go (nat_le most_names s.names) refl
  where
    go : (c : Bool) → nat_le most_names s.names ≡ c → t ≡ s
    go true k = sym (rw k at (state_is e))
    go false k = absurd (not_refused Done r refl (rw k at (answer_is e)))

pub refused : (s t : State) (q : Request) (r : Refusal) → Does s q (Refused r) t → t ≡ s
refused s t (NamesOf i) r h = h.1
refused s t OwnNames r h = h.1
refused s t q r (inr h) = h.2
refused s t (HasMachine i) r (inl e) = sym (state_is e)
refused s t (Read spot n) r (inl e) = sym (state_is e)
refused s t (Highest i) r (inl e) = sym (state_is e)
refused s t (ReadDay d) r (inl e) = sym (state_is e)
refused s t Kept r (inl e) = sym (state_is e)
refused s t (Write n b) r (inl e) = absurd (not_refused Done r refl (answer_is e))
refused s t (Raise i n) r (inl e) = absurd (not_refused Done r refl (answer_is e))
refused s t (Keep w) r (inl e) = absurd (not_refused Done r refl (answer_is e))
refused s t (ThrowAway n) r (inl e) = absurd (not_refused (Told _) r refl (answer_is e))
refused s t (PutAside n) r (inl e) = absurd (not_refused (Told _) r refl (sym (puts_aside n (s.place n) s) ∙ answer_is e))
refused s t (PutBack n) r (inl e) = absurd (not_refused (Told _) r refl (sym (puts_back n (s.aside n) s) ∙ answer_is e))
refused s t (Enlist l) r (inl e) = not_enlisted (s.listed l) s _ t r e
refused s t (EnlistOwn n) r (inl e) = not_enlisted (s.own n) s _ t r e
refused s t (NameDay d ps) r (inl e) = go (s.days d) refl
  where
    go : (o : Option (List ℕ)) → s.days d ≡ o → t ≡ s
    go (Some x) h = sym (rw h at (state_is e))
    go None h = absurd (not_refused Done r refl (rw h at (answer_is e)))
refused s t (LetGo d) r (inl e) = go (s.days d) refl
  where
    go : (o : Option (List ℕ)) → s.days d ≡ o → t ≡ s
    go None h = sym (rw h at (state_is e))
    go (Some x) h = absurd (not_refused Done r refl (rw h at (answer_is e)))
