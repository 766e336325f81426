-- What is where, after a piece was put aside, put back or thrown away.
-- Assumes nothing.
use Rattle.std.proofs.Common.{◌≡◌, ℕ, ◌<◌, ◌⊎◌, inl, inr, ◌∙◌, true, false, Bool, cond, nat_le, IsSome, List, Some, None, Option, ap, sym, refl, subst, arith}
use Rattle.std.proofs.lemmas.Bool.Decides.{nat_tests}
use Rattle.std.specs.Map.{update}
use Rattle.cutting.specs.declared.refusal.Refusal.{Refusal}
use Rattle.cutting.specs.declared.refusal.Refusal.TheVariants.{NoMemory, TooManyNames}
use Rattle.digest.specs.declared.value.Digest.{Digest}
use Rattle.store.specs.declared.sweep.Sweep.{Sweep}
use Rattle.store.specs.Effects.{Does, enlist, put_aside, put_back, with_aside, with_own, with_sweep}
use Rattle.store.specs.Requests.{Done, EnlistOwn, Refused}
use Rattle.store.specs.State.{State, most_names, same_name}
use Rattle.store.proofs.Equality.{names_decide}
use Rattle.store.proofs.Exact.{EnlistedOwn}
use Rattle.sweeper.specs.Promise.{OnlyMoves}
use Rattle.sweeper.proofs.Absurd.{none_is_some}

-- what was put under a name lies there, and under another what lay there
here : (f : Digest → Option (List ℕ)) (n : Digest) (x : Option (List ℕ)) → update same_name f n x n ≡ x
here f n x = ap (λ b. cond b x (f n)) ((names_decide n n).1 refl)

elsewhere : (f : Digest → Option (List ℕ)) (n : Digest) (x : Option (List ℕ)) (q : Digest) → (q ≡ n → ⊥) → update same_name f n x q ≡ f q
elsewhere f n x q other = ap (λ b. cond b x (f q)) (differs (same_name n q) refl)
  where
    differs : (b : Bool) → same_name n q ≡ b → same_name n q ≡ false
    differs false e = e
    differs true e = absurd (other (sym ((names_decide n q).0 e)))

-- nothing moves; where one thing does after another; and where what is kept changes
pub moves_none : (n : Digest) (s t : State) → t ≡ s → OnlyMoves n s t
moves_none n s t e = subst (OnlyMoves n s) (sym e) (record { days = refl; highest = refl; machines = refl; other_places = λ q o. refl; other_asides = λ q o. refl })

moves_both : (n : Digest) (s m t : State) → OnlyMoves n s m → OnlyMoves n m t → OnlyMoves n s t
moves_both n s m t a b =
    record {
      days = b.days ∙ a.days;
      highest = b.highest ∙ a.highest;
      machines = b.machines ∙ a.machines;
      other_places = λ q o. b.other_places q o ∙ a.other_places q o;
      other_asides = λ q o. b.other_asides q o ∙ a.other_asides q o;
    }

moves_kept : (n : Digest) (s t : State) (x : Sweep) → OnlyMoves n s t → OnlyMoves n s (with_sweep x t)
moves_kept n s t x a = record { days = a.days; highest = a.highest; machines = a.machines; other_places = a.other_places; other_asides = a.other_asides }

-- a piece is out of its place, and aside if it was in it
abbrev pub IsAside : Digest → State → State → Type 0
IsAside n s t = OnlyMoves n s t × (t.own n ≡ s.own n) × (t.place n ≡ None) × (IsSome (s.place n) → t.aside n ≡ s.place n)

-- it is no longer aside, and in its place if it was aside
abbrev pub IsBack : Digest → State → State → Type 0
IsBack n s t = OnlyMoves n s t × (t.aside n ≡ None) × (IsSome (s.aside n) → t.place n ≡ s.aside n)

-- it is no longer aside, and its place is as it was
abbrev pub IsAway : Digest → State → State → Type 0
IsAway n s t = OnlyMoves n s t × (t.aside n ≡ None) × (t.place n ≡ s.place n)

is_aside : (n : Digest) (o : Option (List ℕ)) (s : State) → s.place n ≡ o → IsAside n s (put_aside n o s).1
is_aside n None s e = (moves_none n s s refl, refl, e, λ i. none_is_some (s.place n) e i)
is_aside n (Some b) s e = (
  record { days = refl; highest = refl; machines = refl; other_places = elsewhere s.place n None; other_asides = elsewhere s.aside n (Some b) },
  refl,
  here s.place n None,
  λ i. here s.aside n (Some b) ∙ sym e,
)

pub put_aside_is : (n : Digest) (s t : State) → (put_aside n (s.place n) s).1 ≡ t → IsAside n s t
put_aside_is n s t e = subst (IsAside n s) e (is_aside n (s.place n) s refl)

is_back : (n : Digest) (o : Option (List ℕ)) (s : State) → s.aside n ≡ o → IsBack n s (put_back n o s).1
is_back n None s e = (moves_none n s s refl, e, λ i. none_is_some (s.aside n) e i)
is_back n (Some b) s e = (
  record { days = refl; highest = refl; machines = refl; other_places = elsewhere s.place n (Some b); other_asides = elsewhere s.aside n None },
  here s.aside n None,
  λ i. here s.place n (Some b) ∙ sym e,
)

pub put_back_is : (n : Digest) (s t : State) → (put_back n (s.aside n) s).1 ≡ t → IsBack n s t
put_back_is n s t e = subst (IsBack n s) e (is_back n (s.aside n) s refl)

pub thrown_is : (n : Digest) (s t : State) → with_aside n None s ≡ t → IsAway n s t
thrown_is n s t e =
    subst (IsAway n s) e
    (record { days = refl; highest = refl; machines = refl; other_places = λ q o. refl; other_asides = elsewhere s.aside n None }, here s.aside n None, refl)

-- so when something else is kept then
pub back_kept : (n : Digest) (s t : State) (x : Sweep) → IsBack n s t → IsBack n s (with_sweep x t)
back_kept n s t x a = (moves_kept n s t x a.0, a.1, a.2)

pub away_kept : (n : Digest) (s t : State) (x : Sweep) → IsAway n s t → IsAway n s (with_sweep x t)
away_kept n s t x a = (moves_kept n s t x a.0, a.1, a.2)

-- and when the name was listed before
pub listed_aside : (n : Digest) (s m t : State) → EnlistedOwn s n m → m.own n ≡ true → IsAside n m t → OnlyMoves n s t × (t.own n ≡ true) × (t.place n ≡ None) × (IsSome (s.place n) → t.aside n ≡ s.place n)
listed_aside n s m t l o a = (moves_both n s m t (lists l) a.0, a.1 ∙ o, a.2, λ i. a.3 (subst (λ x. IsSome x) (sym (same l)) i) ∙ same l)
  where
    lists : EnlistedOwn s n m → OnlyMoves n s m
    lists (inl (e, f)) = moves_none n s m (sym f)
    lists (inr (e, few, f)) = subst (OnlyMoves n s) f (record { days = refl; highest = refl; machines = refl; other_places = λ q o. refl; other_asides = λ q o. refl })

    same : EnlistedOwn s n m → m.place n ≡ s.place n
    same (inl (e, f)) = ap (λ (w : State). w.place n) (sym f)
    same (inr (e, few, f)) = ap (λ (w : State). w.place n) (sym f)

-- a name is not listed for want of memory, or because the lists are full
abbrev pub IsFull : State → Digest → Refusal → Type 0
IsFull s n r = (r ≡ TooManyNames) × (s.own n ≡ false) × (s.names < most_names → ⊥)

full : (there : Bool) (s more t : State) (r : Refusal) → enlist there s more ≡ (Refused r, t) → (r ≡ TooManyNames) × (there ≡ false) × (s.names < most_names → ⊥)
full true s more t r e =
    let f : Done ≡ Refused r = ap (λ x. x.0) e in
    absurd cc
full false s more t r e = go (nat_le most_names s.names) refl
  where
    go : (c : Bool) → nat_le most_names s.names ≡ c → (r ≡ TooManyNames) × (false ≡ false) × (s.names < most_names → ⊥)
    go true k =
        let f : Refused TooManyNames ≡ Refused r = ap (λ x. x.0) (rw k at e) in
        (cc, refl, λ l. grind (arith, nat_tests, k))
    go false k =
        let f : Done ≡ Refused r = ap (λ x. x.0) (rw k at e) in
        absurd cc

pub not_listed : (s t : State) (n : Digest) (r : Refusal) → Does s (EnlistOwn n) (Refused r) t → (r ≡ NoMemory) ⊎ IsFull s n r
not_listed s t n r (inl e) = inr (full (s.own n) s (with_own n s) t r e)
not_listed s t n r (inr h) =
    let f : Refused r ≡ Refused NoMemory = h.1 in
    inl cc
