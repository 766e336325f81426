-- What is gathered of the names in the lists that no day has.
-- Assumes nothing.
use Rattle.std.proofs.Common.{◌≡◌, ℕ, ◌<◌, ◌⊎◌, inl, inr, ◌∙◌, true, false, Bool, cond, is_some, IsSome, List, [], length, Some, None, Ok, Err, Option, ap, sym, subst, refl, slice_index_or}
use Rattle.std.proofs.lemmas.Bool.Decides.{not_from_Decides}
use Rattle.cutting.specs.declared.refusal.Refusal.{Refusal}
use Rattle.digest.specs.declared.value.Digest.{Digest}
use Rattle.store.specs.declared.piece.Spot.TheVariants.{Place}
use Rattle.store.specs.Asking.{Doing, IsExact}
use Rattle.store.specs.Effects.{Does}
use Rattle.store.specs.Requests.{Request, Bytes, Names, NamesOf, OwnNames, Read, Refused}
use Rattle.store.specs.State.{State, is_in, most_machines}
use Rattle.store.proofs.Exact.{names_of, own_names}
use Rattle.sweeper.specs.Loops.{Each, Go, Loop, with}
use Rattle.sweeper.specs.Looking.{AddsList, AddsListOf, AddsLists, AddsName, GathersUnused, insert}
use Rattle.sweeper.specs.Pieces.{FoundHas, IsListed}
use Rattle.sweeper.specs.System.{Looked}
use Rattle.sweeper.proofs.Absurd.{clash, in_none, none_is_some}
use Rattle.sweeper.proofs.Adding.{Adds, adds_both, adds_like, adds_more, adds_none, adds_one, adds_zero, is_among, is_one_among}
use Rattle.sweeper.proofs.Used.{IsUsed}
use Rattle.sweeper.proofs.Reading.{Below, Reads, loop_alike, reads_like}
use Rattle.sweeper.proofs.Told.{IsNoMemory, is_plain, not_told, told_bytes}

module _ {S : Type 0} (does : Doing S) (holds : S → State) (exact : IsExact holds does) (z : State) (used : List Digest) where
  -- no day has it, and something lies in its place
  abbrev IsSpare : Digest → Type 0
  IsSpare q = (is_in q used ≡ false) × IsSome (z.place q)

  -- what adds just the spare names of P
  abbrev AddsSpares : Go S (List Digest) → (Digest → Type 0) → Type 0
  AddsSpares go P = Reads holds z go (Adds (λ q. P q × IsSpare q)) IsNoMemory

  -- of one name
  adds_name : (n : Digest) → AddsSpares (AddsName does used n) (λ q. q ≡ n)
  adds_name n = record { done = done; stopped = λ s t u v r h x. stopped s t r h x.1 }
    where
      not_none : {A : Type 0} → z.place n ≡ None → (q : Digest) → (q ≡ n) × IsSpare q → A
      not_none e q (f, (x, y)) = none_is_some (z.place n) e (subst (λ w. IsSome (z.place w)) f y)

      not_used : {A : Type 0} → is_in n used ≡ true → (q : Digest) → (q ≡ n) × IsSpare q → A
      not_used e q (f, (x, y)) = clash (ap (λ w. is_in w used) f ∙ e) x

      adds : (b : Option (List ℕ)) (u v : List Digest) → is_in n used ≡ false → z.place n ≡ b → v ≡ cond (is_some b) (insert n u) u → Adds (λ q. (q ≡ n) × IsSpare q) u v
      adds None u v x e f = subst (Adds _ u) (sym f) (adds_none _ u (λ q x. not_none e q x))
      adds (Some b) u v x e f = subst (Adds _ u) (sym f) (adds_one _ n u (refl, (x, ap is_some e)) (λ q p. p.0))

      done : (s t : S) (u v : List Digest) → holds s ≡ z → AddsName does used n s u (Ok tt) t v → (holds t ≡ z) × Adds (λ q. (q ≡ n) × IsSpare q) u v
      done s t u v h (inl (x, e, f)) = (ap holds e ∙ h, subst (Adds _ u) (sym f) (adds_none _ u (λ q y. not_used x q y)))
      done s t u v h (inr (x, b, y, f)) = let a = told_bytes does holds exact z s t h Place n b y in (a.0, adds b u v x a.1 f)

      stopped : (s t : S) (r : Refusal) → holds s ≡ z → does s (Read Place n) (Refused r) t ⊎ ((b : Option (List ℕ)) × does s (Read Place n) (Bytes b) t × IsNoMemory r) → (holds t ≡ z) × IsNoMemory r
      stopped s t r h (inl x) = not_told does holds exact z s t h _ r refl x
      stopped s t r h (inr (b, x, e)) = ((told_bytes does holds exact z s t h Place n b x).0, e)

  -- so of a loop of such, with another word for the names
  loops : (go : ℕ → Go S (List Digest)) (P : ℕ → Digest → Type 0) (Q : Digest → Type 0) (n : ℕ)
      → ((q : Digest) → Below n (λ k. P k q) → Q q) → ((q : Digest) → Q q → Below n (λ k. P k q))
      → ((k : ℕ) → k < n → AddsSpares (go k) (P k)) → AddsSpares (Loop go n) Q
  loops go P Q n to from each =
      reads_like (λ u v a. adds_like _ _ u v (λ q (k, l, (x, y)). (to q (k, l, x), y)) (λ q (x, y). let b = from q x in (b.0, b.1, (b.2, y))) a) (λ r e. e)
      (loop_alike holds z go (λ k. Adds (λ q. P k q × IsSpare q)) IsNoMemory (λ k. Adds (λ q. Below k (λ j. P j q × IsSpare q)))
      (adds_zero (λ k q. P k q × IsSpare q)) (λ k u w v a b. adds_more (λ k q. P k q × IsSpare q) k u w v a b) n each)

  -- of the names of a list
  adds_names : (ns : List Digest) → AddsSpares (Each (AddsName does used) ns) (λ q. is_in q ns ≡ true)
  adds_names ns =
      loops (with (AddsName does used) ns) (λ k q. q ≡ slice_index_or ns k (record { bytes = [] })) (λ q. is_in q ns ≡ true) (length ns)
      (λ q. is_one_among q ns) (λ q. is_among q ns) (λ k l. adds_name _)

  -- of a list that a request tells
  adds_list : (p : Request) (listed : State → Digest → Bool) → is_plain p ≡ true
      → ((w t : State) (ns : List Digest) → Does w p (Names ns) t → (t ≡ w) × ((q : Digest) → is_in q ns ≡ listed w q)) → AddsSpares (AddsList does used p) (λ q. listed z q ≡ true)
  adds_list p listed plain tells = record { done = done; stopped = stopped }
    where
      asked : (s m : S) (ns : List Digest) → holds s ≡ z → does s p (Names ns) m → (holds m ≡ z) × ((q : Digest) → is_in q ns ≡ listed z q)
      asked s m ns h x = let k = tells _ _ ns (exact s m _ _ x) in (k.0 ∙ h, λ q. k.1 q ∙ ap (λ w. listed w q) h)

      done : (s t : S) (u v : List Digest) → holds s ≡ z → AddsList does used p s u (Ok tt) t v → (holds t ≡ z) × Adds (λ q. (listed z q ≡ true) × IsSpare q) u v
      done s t u v h (ns, m, x, y) =
          let a = asked s m ns h x in
          let b = (adds_names ns).done m t u v a.0 y in
          (b.0, adds_like _ _ u v (λ q (e, k). (sym (a.1 q) ∙ e, k)) (λ q (e, k). (a.1 q ∙ e, k)) b.1)

      stopped : (s t : S) (u v : List Digest) (r : Refusal) → holds s ≡ z → AddsList does used p s u (Err r) t v → (holds t ≡ z) × IsNoMemory r
      stopped s t u v r h (inl x) = not_told does holds exact z s t h _ r plain x
      stopped s t u v r h (inr (ns, m, x, y)) = (adds_names ns).stopped m t u v r (asked s m ns h x).0 y

  -- of the lists of machines, of the sweeper's, and of all
  adds_lists : AddsSpares (AddsLists does used) (λ q. Below most_machines (λ i. z.listed (record { machine = i; name = q }) ≡ true))
  adds_lists =
      loops (AddsListOf does used) (λ i q. z.listed (record { machine = i; name = q }) ≡ true) _ most_machines (λ q x. x) (λ q x. x)
      (λ i l. adds_list (NamesOf i) (λ w q. w.listed (record { machine = i; name = q })) refl (λ w t ns x. names_of w t i ns x))

  adds_own : AddsSpares (AddsList does used OwnNames) (λ q. z.own q ≡ true)
  adds_own = adds_list OwnNames (λ w q. w.own q) refl (λ w t ns x. own_names w t ns x)

  gathers : AddsSpares (GathersUnused does used) (IsListed z)
  gathers = record { done = done; stopped = stopped }
    where
      to : (q : Digest) → (Below most_machines (λ i. z.listed (record { machine = i; name = q }) ≡ true) × IsSpare q) ⊎ ((z.own q ≡ true) × IsSpare q) → IsListed z q × IsSpare q
      to q (inl x) = (inl x.0, x.1)
      to q (inr x) = (inr x.0, x.1)

      from : (q : Digest) → IsListed z q × IsSpare q → (Below most_machines (λ i. z.listed (record { machine = i; name = q }) ≡ true) × IsSpare q) ⊎ ((z.own q ≡ true) × IsSpare q)
      from q (inl x, y) = inl (x, y)
      from q (inr x, y) = inr (x, y)

      done : (s t : S) (u v : List Digest) → holds s ≡ z → GathersUnused does used s u (Ok tt) t v → (holds t ≡ z) × Adds (λ q. IsListed z q × IsSpare q) u v
      done s t u v h (m, w, x, y) =
          let a = adds_lists.done s m u w h x in
          let b = adds_own.done m t w v a.0 y in
          (b.0, adds_like _ _ u v to from (adds_both _ _ u w v a.1 b.1))

      stopped : (s t : S) (u v : List Digest) (r : Refusal) → holds s ≡ z → GathersUnused does used s u (Err r) t v → (holds t ≡ z) × IsNoMemory r
      stopped s t u v r h (inl x) = adds_lists.stopped s t u v r h x
      stopped s t u v r h (inr (m, w, x, y)) = adds_own.stopped m t w v r (adds_lists.done s m u w h x).0 y

module _ {S : Type 0} (does : Doing S) (holds : S → State) (exact : IsExact holds does) (z : State) where
  -- what a look finds
  pub gathers_unused : (used left : List Digest) (s t : S) → holds s ≡ z → IsUsed z used → GathersUnused does used s [] (Ok tt) t left → (holds t ≡ z) × Looked z left
  gathers_unused used left s t h k x =
      let a = (gathers does holds exact z used).done s t [] left h x in
      (a.0, record { whole = k.whole; spares = λ q i. spare q (a.1.only q i); all = λ q l p n. a.1.all q (l, (not_in q (is_in q used) refl n, p)) })
    where
      spare : (q : Digest) → (is_in q [] ≡ true) ⊎ (IsListed z q × ((is_in q used ≡ false) × IsSome (z.place q))) → IsListed z q × IsSome (z.place q) × (FoundHas z q → ⊥)
      spare q (inl e) = in_none q e
      spare q (inr (l, (n, p))) = (l, p, not_from_Decides (is_in q used) (k.decides q) n)

      not_in : (q : Digest) (b : Bool) → is_in q used ≡ b → (FoundHas z q → ⊥) → is_in q used ≡ false
      not_in q false e n = e
      not_in q true e n = absurd (n ((k.decides q).0 e))

  -- or why it finds nothing
  pub gathers_no_unused : (used v : List Digest) (s t : S) (r : Refusal) → holds s ≡ z → GathersUnused does used s [] (Err r) t v → (holds t ≡ z) × IsNoMemory r
  gathers_no_unused used v s t r h x = (gathers does holds exact z used).stopped s t [] v r h x
