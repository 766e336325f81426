-- Steps of the system, and the pieces that the sweeper moves.
-- Assumes nothing.
use Rattle.std.proofs.Common.{◌≡◌, ℕ, suc, inl, inr, ◌∙◌, true, cond, List, [], ◌∷◌, Some, None, Ok, Err, Option, Result, ap, sym, refl, subst, slice_get}
use Rattle.cutting.specs.declared.refusal.Refusal.{Refusal}
use Rattle.digest.specs.declared.value.Digest.{Digest}
use Rattle.store.specs.declared.sweep.Sweep.TheVariants as kept
use Rattle.store.specs.Asking.{Doing, IsExact}
use Rattle.store.specs.Effects.{with_own}
use Rattle.store.specs.Requests.{Done, EnlistOwn}
use Rattle.store.specs.State.{State}
use Rattle.store.proofs.Equality.{names_decide}
use Rattle.store.proofs.Exact.{EnlistedOwn, enlisted_own, keep, put_back, threw}
use Rattle.sweeper.specs.declared.done.Done.{Done as StepDone}
use Rattle.sweeper.specs.declared.done.Done.TheVariants as done
use Rattle.sweeper.specs.Steps.{RestsIfDone, TakesTurn}
use Rattle.sweeper.specs.Sweepers.{Sweeping, ends, puts, rests}
use Rattle.sweeper.specs.System.{Step, World, lists, puts_back, rests_again, throws}
use Rattle.sweeper.specs.Within.{Within, onward, still}
use Rattle.sweeper.proofs.Told.{unmoved}

-- a store, and what the sweeper does
abbrev pub world : State → Sweeping → World
world s w = record { store = s; sweeper = w }

-- fewer steps are so many at most, too
pub more : {n : ℕ} {u w : World} → Within n u w → Within (suc n) u w
more still = still
more (onward r k) = onward (more r) k

-- nothing has changed
pub stays : {n : ℕ} (s t : State) (old new : Sweeping) → t ≡ s → new ≡ old → Within n (world s old) (world t new)
stays {n} s t old new e f = subst (λ (x : State × Sweeping). Within n (world s old) (world x.0 x.1)) (λ i. (sym e i, sym f i)) still

-- some steps lead to the same
pub leads : {n : ℕ} (u : World) (s t : State) (old new : Sweeping) → Within n u (world s old) → t ≡ s → new ≡ old → Within n u (world t new)
leads {n} u s t old new r e f = subst (λ (x : State × Sweeping). Within n u (world x.0 x.1)) (λ i. (sym e i, sym f i)) r

-- a step more
pub moves : {n : ℕ} (u v : World) (s t : State) (w new : Sweeping) → Within n u v → Step v (world s w) → s ≡ t → new ≡ w → Within (suc n) u (world t new)
moves {n} u v s t w new r k e f = subst (λ (x : State × Sweeping). Within (suc n) u (world x.0 x.1)) (λ i. (e i, sym f i)) (onward r k)

-- the first of a list
pub first_of_list : (ns : List Digest) (n : Digest) → slice_get ns 0 ≡ Some n → (left : List Digest) × (ns ≡ n ∷ left)
first_of_list [] n e =
    let f : None ≡ Some n = e in
    absurd cc
first_of_list (x ∷ xs) n e =
    let f : Some x ≡ Some n = e in
    let g : x ≡ n = cc in
    (xs, ap (λ y. y ∷ xs) g)

-- a name that is added to the sweeper's list is there
own_here : (n : Digest) (s : State) → (with_own n s).own n ≡ true
own_here n s = ap (λ b. cond b true (s.own n)) ((names_decide n n).1 refl)

pub listed_then : (s t : State) (n : Digest) → EnlistedOwn s n t → t.own n ≡ true
listed_then s t n (inl (e, f)) = ap (λ (w : State). w.own n) (sym f) ∙ e
listed_then s t n (inr (e, few, f)) = ap (λ (w : State). w.own n) (sym f) ∙ own_here n s

-- it is listed, or was
lists_run : (s t : State) (n : Digest) (left : List Digest) (old : Sweeping) → old ≡ puts (n ∷ left) → EnlistedOwn s n t → Within 1 (world s old) (world t old)
lists_run s t n left old e (inl (l, f)) = stays s t old old (sym f) refl
lists_run s t n left old e (inr (l, few, f)) = moves (world s old) (world s old) _ t old old still (lists (world s old) n left e l few) f refl

module _ {S : Type 0} (does : Doing S) (holds : S → State) (exact : IsExact holds does) where
  -- a name is listed, if it was not
  pub enlists : (s t : S) (n : Digest) (left : List Digest) (old : Sweeping) → old ≡ puts (n ∷ left) → does s (EnlistOwn n) Done t → Within 1 (world (holds s) old) (world (holds t) old) × ((holds t).own n ≡ true)
  enlists s t n left old e x = let k = enlisted_own _ _ n (exact s t _ _ x) in (lists_run _ _ n left old e k, listed_then _ _ n k)

  -- after a step that leads to the end of a sweep it may rest
  pub then_rests : (u : World) (turns : List Digest × List Digest) (s t : S) (a : Result (Unit {0}) Refusal) (new : Sweeping) →
      Within 1 u (world (holds s) (ends turns.0 turns.1)) → RestsIfDone does turns s a new t → Within 2 u (world (holds t) new)
  then_rests u turns s t (Ok x) new r (inl (e, f, k)) =
      moves u (world (holds s) (ends turns.0 turns.1)) _ (holds t) rests new r (rests_again _ (ap (λ (y : List Digest × List Digest). ends y.0 y.1) e)) (keep _ _ kept.Rests (exact s t _ _ k)) f
  then_rests u turns s t (Ok x) new r (inr (n, f, e)) = leads u _ (holds t) _ new (more r) (ap holds e) f
  then_rests u turns s t (Err q) new r (e, f, k) =
      leads u _ (holds t) _ new (more r) (unmoved does holds exact s t _ q k) (f ∙ sym (ap (λ (y : List Digest × List Digest). ends y.0 y.1) e))

  -- a turn, or none
  pub takes : (old new : List Digest × List Digest) (s t : S) (d : Option StepDone) → TakesTurn does old s (Ok d) new t → Within 1 (world (holds s) (ends old.0 old.1)) (world (holds t) (ends new.0 new.1))
  takes old new s t None (e, f, same) = stays _ _ _ _ (ap holds same) (ap (λ (y : List Digest × List Digest). ends y.0 y.1) f)
  takes old new s t (Some (done.PutBack n)) (e, b, x) =
      let w = world (holds s) (ends old.0 old.1) in
      moves w w _ (holds t) _ (ends new.0 new.1) still (puts_back w n new.0 new.1 (ap (λ (y : List Digest × List Digest). ends y.0 y.1) e)) (put_back _ _ n b (exact s t _ _ x)).1 refl
  takes old new s t (Some (done.ThrownAway n)) (e, f, b, x) =
      let w = world (holds s) (ends old.0 old.1) in
      moves w w _ (holds t) _ (ends new.0 new.1) still (throws w n new.1 (ap (λ (y : List Digest × List Digest). ends y.0 y.1) e)) (threw _ _ n b (exact s t _ _ x)).1 (ap (λ y. ends y new.1) f)
  takes old new s t (Some other) h = absurd h
