-- Steps of the system.
-- Assumes nothing.
use Rattle.std.proofs.Common.{◌≡◌, ℕ, zero, suc, ◌+◌, ◌≤◌, inl, inr, ap, sym, subst, refl, ◌∙◌, arith, true, false, Bool, [], ◌∷◌, Option}
use Rattle.std.proofs.lemmas.Grind.{common_steps}
use Rattle.std.proofs.lemmas.Cmp.{nat_cmp_total, nat_list_cmp_total}
use Rattle.std.specs.Cmp.{IsTotalOrder}
use Rattle.std.specs.Ordering.{ordering_reverse}
use Rattle.std.specs.declared.cmp.Ordering.{Ordering}
use Rattle.std.specs.declared.cmp.Ordering.TheVariants.{Less, Equal, Greater}
use Rattle.cutting.specs.declared.refusal.Refusal.{Refusal}
use Rattle.store.specs.declared.listing.Listing.{Listing}
use Rattle.store.specs.Effects.{with_listing}
use Rattle.store.specs.Requests.{Request, HasMachine, Told}
use Rattle.store.specs.State.{State}
use Rattle.days.specs.Asking.{Asked, NotOnList}
use Rattle.store.specs.Asking.{Doing}
use Rattle.days.specs.Machines.{Work}
use Rattle.store.specs.Asking.{IsExact}
use Rattle.days.specs.Steps.{fails}
use Rattle.days.specs.System.{Step, Within, World, onward, put, still, world}
use Rattle.store.proofs.Exact.{refused, told}

pub put_here : (i : ℕ) (x : Option Work) (f : ℕ → Option Work) → put i x f i ≡ x
put_here i x f = grind (arith, common_steps)

pub put_same : (i : ℕ) (f : ℕ → Option Work) → put i (f i) f ≡ f
put_same i f = λ k j. at j k
  where
    at : (j : ℕ) → put i (f i) f j ≡ f j
    at j = grind (arith, common_steps)

pub put_put : (i : ℕ) (x y : Option Work) (f : ℕ → Option Work) → put i y (put i x f) ≡ put i y f
put_put i x y f = λ k j. at j k
  where
    at : (j : ℕ) → put i y (put i x f) j ≡ put i y f j
    at j = grind (arith, common_steps)

pub compares_equal : {K : Type 0} {R : K → K → Ordering} → IsTotalOrder R → (x : K) → R x x ≡ Equal
compares_equal {R = R} o x = go (R x x) (o.antisymm x x)
  where
    go : (r : Ordering) → r ≡ ordering_reverse r → r ≡ Equal
    go Less e = absurd cc
    go Equal e = refl
    go Greater e = absurd cc

-- a name that is listed is there
pub listed_here : (l : Listing) (s : State) → (with_listing l s).listed l ≡ true
listed_here l s =
    let m = compares_equal nat_cmp_total l.machine in
    let n = compares_equal nat_list_cmp_total l.name.bytes in
    rw (m, n) refl

-- fewer steps are so many at most, too
pub at_most : {m n : ℕ} {u w : World} → m ≤ n → Within m u w → Within n u w
at_most h still = still
at_most {n = suc n} h (onward r k) = onward (at_most (omega arith) r) k
at_most {n = zero} h (onward r k) = absurd (omega arith)

-- some steps, and then some more
pub after : {m n : ℕ} {u v w : World} → Within m u v → Within n v w → Within (n + m) u w
after r still = at_most (omega arith) r
after r (onward q k) = at_most (omega arith) (onward (after r q) k)

-- where machine i has made this and then that, it makes that
pub at_last : {n : ℕ} (u w : World) (i : ℕ) (s t : State) (d new : Option Work) → Within n u (world t i new (world s i d w)) → Within n u (world t i new w)
at_last {n} u w i s t d new r = subst (λ (g : ℕ → Option Work). Within n u (record { store = t; makes = g })) (put_put i d new w.makes) r

-- nothing has changed
pub stays : {n : ℕ} (w : World) (i : ℕ) (s : State) (new : Option Work) → s ≡ w.store → new ≡ w.makes i → Within n w (world s i new w)
stays {n} w i s new e f = subst (Within n w) (λ k. record { store = sym e k; makes = (sym (put_same i w.makes) ∙ ap (λ x. put i x w.makes) (sym f)) k }) still

-- a step more
pub moves : {n : ℕ} (u w : World) (i : ℕ) (s t : State) (d new : Option Work) → Within n u w → Step w (world s i d w) → s ≡ t → d ≡ new → Within (suc n) u (world t i new w)
moves {n} u w i s t d new r k e f = subst (λ (x : State × Option Work). Within (suc n) u (world x.0 i x.1 w)) (λ j. (e j, f j)) (onward r k)

module _ {S : Type 0} (does : Doing S) (holds : S → State) (exact : IsExact holds does) where
  -- a refusal changes nothing
  pub unmoved : (s t : S) (q : Request) (r : Refusal) → Asked does s (fails q r ∷ []) t → holds t ≡ holds s
  unmoved s t q r (u, d, e) = ap holds e ∙ refused _ _ q r (exact s u q _ d)

  -- the machine is on the list
  pub on : (s t : S) (i : ℕ) (b : Bool) → Asked does s ((HasMachine i, Told b) ∷ []) t → (holds t ≡ holds s) × ((holds s).machines i ≡ b)
  on s t i b (u, d, e) = let k = told _ _ i b (exact s u _ _ d) in (ap holds e ∙ k.0, k.1)

  pub not_on : (s t : S) (i : ℕ) (r : Refusal) → NotOnList does i s r t → holds t ≡ holds s
  not_on s t i r (inl h) = (on s t i false h.0).0
  not_on s t i r (inr h) = unmoved s t (HasMachine i) r h
