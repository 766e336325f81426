-- What an exact store holds once pieces are seen to.
-- Assumes nothing.
use Rattle.std.proofs.Common.{◌≡◌, ℕ, zero, suc, ◌<◌, ◌≤◌, ◌++◌, ◌⊎◌, inl, inr, ap, sym, subst, refl, ◌∙◌, arith, true, false, Bool, List, [], ◌∷◌, length, map, take, slice_index_or, Some, Ok, Err, Option, take-suc}
use Rattle.std.proofs.lemmas.Bool.{or_cases}
use Rattle.std.proofs.lemmas.Cmp.{nat_list_cmp_total}
use Rattle.std.proofs.lemmas.List.{map-append}
use Rattle.std.proofs.lemmas.List.Folds.{list_any-append}
use Rattle.cutting.specs.declared.refusal.Refusal.{Refusal}
use Rattle.digest.specs.declared.value.Digest.{Digest}
use Rattle.digest.specs.Digests.{digest_of}
use Rattle.store.specs.declared.listing.Listing.{Listing}
use Rattle.store.specs.declared.piece.Spot.TheVariants.{Place}
use Rattle.store.specs.Asking.{Doing, IsExact}
use Rattle.store.specs.Effects.{with_place}
use Rattle.store.specs.Loops.{Each, Go, Loop, Times, at}
use Rattle.store.specs.State.{State, is_in, same_name}
use Rattle.store.proofs.Equality.{names_decide}
use Rattle.store.proofs.Exact.{Enlisted, enlisted, read, wrote}
use Rattle.days.specs.Promise.{AllInPlace, OnlyLists}
use Rattle.days.specs.Steps.{SeesPiece, SeesTo}
use Rattle.days.proofs.Moves.{compares_equal}

module _ {S U : Type 0} where
  -- what holds at the start, and after each go where it held before it, holds after all
  pub times_run : (go : ℕ → Go S U) (P : ℕ → S → Type 0) (n : ℕ) (s : S) (u : U) → P 0 s → ((k : ℕ) (m t : S) (w v : U) → k < n → P k m → go k m w (Ok tt) t v → P (suc k) t) →
      (k : ℕ) (t : S) (v : U) → k ≤ n → Times go k s u t v → P k t
  unfolding Times
  times_run go P n s u base step zero t v le (e, f) = subst (P 0) (sym e) base
  times_run go P n s u base step (suc k) t v le (m, w, h, g) = step k m t w v (omega arith) (times_run go P n s u base step k m w (omega arith) h) g

  -- a loop over a list that is at its end, and one that stops
  pub each_is_done : {X : Type 0} (none : X) (go : X → Go S U) (xs : List X) (s t : S) (u v : U) → Each none go xs s u (Ok tt) t v → Times (at none go xs) (length xs) s u t v
  unfolding Loop
  each_is_done none go xs s t u v h = h

  pub each_is_stopped : {X : Type 0} (none : X) (go : X → Go S U) (xs : List X) (s t : S) (u v : U) (r : Refusal) → Each none go xs s u (Err r) t v →
      (k : ℕ) × (k < length xs) × (m : S) × (w : U) × Times (at none go xs) k s u m w × go (slice_index_or xs k none) m w (Err r) t v
  unfolding Loop
  each_is_stopped none go xs s t u v r h = h

-- a piece more of the first pieces
pub names_more : (ps : List (List ℕ)) (k : ℕ) → k < length ps → map digest_of (take (suc k) ps) ≡ map digest_of (take k ps) ++ digest_of (slice_index_or ps k []) ∷ []
names_more ps k h = ap (map digest_of) (take-suc ps k [] h) ∙ map-append digest_of (take k ps) (slice_index_or ps k [] ∷ [])

pub only_same : {s t : State} → t ≡ s → OnlyLists s t
only_same e =
    record {
      place = ap (λ (z : State). z.place) e;
      aside = ap (λ (z : State). z.aside) e;
      own = ap (λ (z : State). z.own) e;
      days = ap (λ (z : State). z.days) e;
      highest = ap (λ (z : State). z.highest) e;
      machines = ap (λ (z : State). z.machines) e;
      sweep = ap (λ (z : State). z.sweep) e;
    }

pub only_then : {s t u : State} → OnlyLists s t → OnlyLists t u → OnlyLists s u
only_then x y =
    record {
      place = y.place ∙ x.place;
      aside = y.aside ∙ x.aside;
      own = y.own ∙ x.own;
      days = y.days ∙ x.days;
      highest = y.highest ∙ x.highest;
      machines = y.machines ∙ x.machines;
      sweep = y.sweep ∙ x.sweep;
    }

-- bytes of a name lie in its place
abbrev pub InPlace : State → Digest → Type 0
InPlace s n = (b : List ℕ) × (s.place n ≡ Some b) × (digest_of b ≡ n)

-- what was put under a name lies there
pub placed : (n : Digest) (b : List ℕ) (s : State) → (with_place n (Some b) s).place n ≡ Some b
placed n b s = rw (compares_equal nat_list_cmp_total n.bytes) refl

-- where a piece is put under its name, bytes of a name lie still in its place
in_place_still : (p : List ℕ) (s : State) (n : Digest) → InPlace s n → InPlace (with_place (digest_of p) (Some p) s) n
in_place_still p s n (b, there, is) = go (same_name (digest_of p) n) refl
  where
    go : (c : Bool) → same_name (digest_of p) n ≡ c → InPlace (with_place (digest_of p) (Some p) s) n
    go true e = (p, rw e refl, (names_decide (digest_of p) n).0 e)
    go false e = (b, rw e there, is)

-- a name more
in_place_more : (s : State) (ns : List Digest) (n : Digest) → AllInPlace s ns → InPlace s n → AllInPlace s (ns ++ n ∷ [])
in_place_more s ns n all here q h = go (or_cases _ _ (sym (list_any-append (same_name q) ns (n ∷ [])) ∙ h))
  where
    go : (is_in q ns ≡ true) ⊎ (is_in q (n ∷ []) ≡ true) → InPlace s q
    go (inl old) = all q old
    go (inr new) = last (or_cases _ _ new)
      where
        last : (same_name q n ≡ true) ⊎ (false ≡ true) → InPlace s q
        last (inl e) = subst (InPlace s) (sym ((names_decide q n).0 e)) here
        last (inr e) = absurd cc

-- what is so once a piece is seen to: it lies in its place, and whatever of a name lay in its place still does
pub record SeenTo (p : List ℕ) (s t : State) : Type 0 where
  pub machines : t.machines ≡ s.machines
  pub there : t.place (digest_of p) ≡ Some p
  pub others : (n : Digest) → InPlace s n → InPlace t n

found_there : (p : List ℕ) (s t : State) → t ≡ s → s.place (digest_of p) ≡ Some p → SeenTo p s t
found_there p s t e there = subst (SeenTo p s) (sym e) (record { machines = refl; there = there; others = λ n h. h })

written_there : (p : List ℕ) (s u t : State) → OnlyLists s u → with_place (digest_of p) (Some p) u ≡ t → SeenTo p s t
written_there p s u t o w =
    subst (SeenTo p s) w (record { machines = o.machines; there = placed (digest_of p) p u; others = λ n h. in_place_still p u n (h.0, ap (λ (f : Digest → Option (List ℕ)). f n) o.place ∙ h.1, h.2) })

-- a name was listed
pub listed_only : (s t : State) (l : Listing) → Enlisted s l t → OnlyLists s t
listed_only s t l (inl (there, same)) = only_same (sym same)
listed_only s t l (inr (new, few, is)) = subst (OnlyLists s) is (record { place = refl; aside = refl; own = refl; days = refl; highest = refl; machines = refl; sweep = refl })

module _ {S : Type 0} (does : Doing S) (holds : S → State) (exact : IsExact holds does) (i : ℕ) where
  pub seen_to : (p : List ℕ) (s t : S) (b : Bool) → SeesTo does i p s (Ok b) t → SeenTo p (holds s) (holds t)
  seen_to p s t false (m, asked, last) =
      let k = read _ _ Place (digest_of p) (Some p) (exact s m _ _ asked) in
      found_there p (holds s) (holds t) (ap holds last ∙ k.0) k.1
  seen_to p s t true (b, other, (m, asked, (m', listed, (m'', written, last)))) =
      let k = read _ _ Place (digest_of p) b (exact s m _ _ asked) in
      written_there p (holds s) (holds m') (holds t) (only_then (only_same k.0) (listed_only _ _ _ (enlisted _ _ _ (exact m m' _ _ listed)))) (wrote _ _ (digest_of p) p (exact m' m'' _ _ written) ∙ ap holds (sym last))

  -- after the first pieces of a list
  pub all_seen : (ps : List (List ℕ)) (k : ℕ) (s t : S) (u v : ℕ) → k ≤ length ps → Times (at [] (SeesPiece does i) ps) k s u t v → AllInPlace (holds t) (map digest_of (take k ps))
  all_seen ps k s t u v le h =
      times_run _ (λ j m. AllInPlace (holds m) (map digest_of (take j ps))) (length ps) s u (λ n e. absurd cc)
      (λ j m t w v lt before g.
      let p = slice_index_or ps j [] in
      let now : SeenTo p (holds m) (holds t) = seen_to p m t g.0 g.1 in
      subst (AllInPlace (holds t)) (sym (names_more ps j lt)) (in_place_more (holds t) _ (digest_of p) (λ n e. now.others n (before n e)) (p, now.there, refl)))
      k t v le h
