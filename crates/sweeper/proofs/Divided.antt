-- How what lies aside is divided when the sweeper decides.
-- Assumes nothing.
use Rattle.std.proofs.Common.{◌≡◌, ◌≢◌, ℕ, ◌⊎◌, inl, inr, ◌∙◌, true, false, Bool, is_some, IsSome, List, [], length, Some, None, Ok, Err, Option, ap, sym, subst, refl, slice_index_or}
use Rattle.std.proofs.lemmas.Bool.Decides.{not_from_Decides}
use Rattle.cutting.specs.declared.refusal.Refusal.{Refusal}
use Rattle.digest.specs.declared.value.Digest.{Digest}
use Rattle.digest.specs.Digests.{digest_of}
use Rattle.store.specs.declared.piece.Spot.TheVariants.{Aside}
use Rattle.store.specs.Asking.{Doing, IsExact}
use Rattle.store.specs.Requests.{Bytes, Names, OwnNames, Read, Refused}
use Rattle.store.specs.State.{State, is_in, same_name}
use Rattle.store.proofs.Equality.{names_decide}
use Rattle.store.proofs.Exact.{own_names}
use Rattle.sweeper.specs.Loops.{Each, with}
use Rattle.sweeper.specs.Looking.{Divided, Divides, DividesAll}
use Rattle.sweeper.specs.Pieces.{FoundHas, IsRight}
use Rattle.sweeper.specs.System.{Decided}
use Rattle.sweeper.proofs.Absurd.{clash, in_none, none_is_some}
use Rattle.sweeper.proofs.Adding.{Adds, adds_like, adds_more, adds_none, adds_one, adds_zero, is_among, is_one_among}
use Rattle.sweeper.proofs.Used.{IsUsed}
use Rattle.sweeper.proofs.Reading.{Below, Reads, loop_alike, reads_like}
use Rattle.sweeper.proofs.Told.{IsNoMemory, not_told, told_bytes}

-- what of P and of Q is added to the one and to the other
abbrev AddsTo : (Digest → Type 0) → (Digest → Type 0) → List Digest × List Digest → List Digest × List Digest → Type 0
AddsTo P Q u v = Adds P u.0 v.0 × Adds Q u.1 v.1

-- of what lies aside: what is to go back, since a day has it and its bytes are right; and what away
abbrev Back : State → List Digest → Digest → Type 0
Back z used q = (is_in q used ≡ true) × IsRight q (z.aside q)

abbrev Away : State → List Digest → Digest → Type 0
Away z used q = IsSome (z.aside q) × (Back z used q → ⊥)

-- of one name; and of the sweeper's list
abbrev One : (Digest → Type 0) → Digest → Digest → Type 0
One P n q = (q ≡ n) × P q

abbrev Own : (Digest → Type 0) → State → Digest → Type 0
Own P z q = (z.own q ≡ true) × P q

module _ {S : Type 0} (does : Doing S) (holds : S → State) (exact : IsExact holds does) (z : State) (used : List Digest) where
  -- one name is divided; and the sweeper's list
  abbrev DividesOne : Digest → List Digest × List Digest → List Digest × List Digest → Type 0
  DividesOne n = AddsTo (One (Back z used) n) (One (Away z used) n)

  abbrev DividesOwn : List Digest × List Digest → List Digest × List Digest → Type 0
  DividesOwn = AddsTo (Own (Back z used) z) (Own (Away z used) z)

  -- of a name under which nothing lies
  divided_none : (n : Digest) (u v : List Digest × List Digest) → z.aside n ≡ None → v ≡ u → DividesOne n u v
  divided_none n u v e f = subst (DividesOne n u) (sym f) (adds_none _ u.0 (λ q x. back q x), adds_none _ u.1 (λ q x. away q x))
    where
      back : {A : Type 0} (q : Digest) → One (Back z used) n q → A
      back q (g, (x, y)) = absurd (subst (IsRight n) e (subst (λ w. IsRight w (z.aside w)) g y))

      away : {A : Type 0} (q : Digest) → One (Away z used) n q → A
      away q (g, (x, y)) = none_is_some (z.aside n) e (subst (λ w. IsSome (z.aside w)) g x)

  -- of one under which these bytes lie
  divided_some : (n : Digest) (b : List ℕ) (u v : List Digest × List Digest) → z.aside n ≡ Some b → Divided does used n (Some b) u v → DividesOne n u v
  divided_some n b u v e (inl (i, right, f)) =
      let k : Back z used n = (i, subst (IsRight n) (sym e) right) in
      subst (DividesOne n u) (sym f) (adds_one _ n u.0 (refl, k) (λ q x. x.0), adds_none _ u.1 (λ q (g, (x, y)). absurd (y (subst (Back z used) (sym g) k))))
  divided_some n b u v e (inr (other, f)) =
      let k : Back z used n → ⊥ = none other in
      subst (DividesOne n u) (sym f) (adds_none _ u.0 (λ q (g, x). absurd (k (subst (Back z used) g x))), adds_one _ n u.1 (refl, (ap is_some e, k)) (λ q x. x.0))
    where
      none : (is_in n used ≡ false) ⊎ (digest_of b ≢ n) → Back z used n → ⊥
      none (inl i) (x, y) = clash x i
      none (inr d) (x, y) = d (subst (IsRight n) e y)

  -- of one name
  divides : (n : Digest) → Reads holds z (Divides does used n) (DividesOne n) IsNoMemory
  divides n = record { done = done; stopped = λ s t u v r h x. stopped s t r h x }
    where
      divided : (b : Option (List ℕ)) (u v : List Digest × List Digest) → z.aside n ≡ b → Divided does used n b u v → DividesOne n u v
      divided None u v e x = divided_none n u v e x
      divided (Some b) u v e x = divided_some n b u v e x

      done : (s t : S) (u v : List Digest × List Digest) → holds s ≡ z → Divides does used n s u (Ok tt) t v → (holds t ≡ z) × DividesOne n u v
      done s t u v h (b, x, y) = let a = told_bytes does holds exact z s t h Aside n b x in (a.0, divided b u v a.1 y)

      stopped : (s t : S) (r : Refusal) → holds s ≡ z → does s (Read Aside n) (Refused r) t ⊎ ((b : Option (List ℕ)) × does s (Read Aside n) (Bytes b) t × IsNoMemory r) → (holds t ≡ z) × IsNoMemory r
      stopped s t r h (inl x) = not_told does holds exact z s t h _ r refl x
      stopped s t r h (inr (b, x, e)) = ((told_bytes does holds exact z s t h Aside n b x).0, e)

  -- so of every name in a list
  divides_names : (ns : List Digest) → Reads holds z (Each (Divides does used) ns) (AddsTo (λ q. (is_in q ns ≡ true) × Back z used q) (λ q. (is_in q ns ≡ true) × Away z used q)) IsNoMemory
  divides_names ns =
      reads_like (λ u v a. (adds_like _ _ u.0 v.0 (to (Back z used)) (from (Back z used)) a.0, adds_like _ _ u.1 v.1 (to (Away z used)) (from (Away z used)) a.1)) (λ r e. e)
      (loop_alike holds z (with (Divides does used) ns) (λ k. AddsTo (at (Back z used) k) (at (Away z used) k)) IsNoMemory (λ k. AddsTo (λ q. Below k (λ j. at (Back z used) j q)) (λ q. Below k (λ j. at (Away z used) j q)))
      (λ u. (adds_zero (at (Back z used)) u.0, adds_zero (at (Away z used)) u.1)) (λ k u w v a b. (adds_more (at (Back z used)) k u.0 w.0 v.0 a.0 b.0, adds_more (at (Away z used)) k u.1 w.1 v.1 a.1 b.1))
      (length ns) (λ k l. divides _))
    where
      at : (Digest → Type 0) → ℕ → Digest → Type 0
      at P k q = (q ≡ slice_index_or ns k (record { bytes = [] })) × P q

      to : (P : Digest → Type 0) (q : Digest) → Below (length ns) (λ k. at P k q) → (is_in q ns ≡ true) × P q
      to P q (k, l, (e, x)) = (is_one_among q ns (k, l, e), x)

      from : (P : Digest → Type 0) (q : Digest) → (is_in q ns ≡ true) × P q → Below (length ns) (λ k. at P k q)
      from P q (i, x) = let a = is_among q ns i in (a.0, a.1, (a.2, x))

  -- and of all in the sweeper's list
  divides_all : Reads holds z (DividesAll does used) DividesOwn IsNoMemory
  divides_all = record { done = done; stopped = stopped }
    where
      asked : (s m : S) (ns : List Digest) → holds s ≡ z → does s OwnNames (Names ns) m → (holds m ≡ z) × ((q : Digest) → is_in q ns ≡ z.own q)
      asked s m ns h x = let k = own_names _ _ ns (exact s m _ _ x) in (k.0 ∙ h, λ q. k.1 q ∙ ap (λ (w : State). w.own q) h)

      told : (ns : List Digest) (P : Digest → Type 0) (u v : List Digest) → ((q : Digest) → is_in q ns ≡ z.own q) → Adds (λ q. (is_in q ns ≡ true) × P q) u v → Adds (Own P z) u v
      told ns P u v e a = adds_like _ _ u v (λ q (i, x). (sym (e q) ∙ i, x)) (λ q (i, x). (e q ∙ i, x)) a

      done : (s t : S) (u v : List Digest × List Digest) → holds s ≡ z → DividesAll does used s u (Ok tt) t v → (holds t ≡ z) × DividesOwn u v
      done s t u v h (ns, m, x, y) =
          let a = asked s m ns h x in
          let b = (divides_names ns).done m t u v a.0 y in
          (b.0, (told ns (Back z used) u.0 v.0 a.1 b.1.0, told ns (Away z used) u.1 v.1 a.1 b.1.1))

      stopped : (s t : S) (u v : List Digest × List Digest) (r : Refusal) → holds s ≡ z → DividesAll does used s u (Err r) t v → (holds t ≡ z) × IsNoMemory r
      stopped s t u v r h (inl x) = not_told does holds exact z s t h _ r refl x
      stopped s t u v r h (inr (ns, m, x, y)) = (divides_names ns).stopped m t u v r (asked s m ns h x).0 y

  -- what lies aside is one or the other
  either : (q : Digest) → IsSome (z.aside q) → Back z used q ⊎ Away z used q
  either q i = used_or (is_in q used) refl
    where
      right_or : is_in q used ≡ true → (o : Option (List ℕ)) → z.aside q ≡ o → Back z used q ⊎ Away z used q
      right_or x None e = none_is_some (z.aside q) e i
      right_or x (Some b) e = same_or (same_name (digest_of b) q) refl
        where
          same_or : (c : Bool) → same_name (digest_of b) q ≡ c → Back z used q ⊎ Away z used q
          same_or true f = inl (x, subst (IsRight q) (sym e) ((names_decide (digest_of b) q).0 f))
          same_or false f = inr (i, λ (y, k). not_from_Decides _ (names_decide (digest_of b) q) f (subst (IsRight q) e k))

      used_or : (c : Bool) → is_in q used ≡ c → Back z used q ⊎ Away z used q
      used_or true x = right_or x (z.aside q) refl
      used_or false x = inr (i, λ (y, k). clash y x)

module _ {S : Type 0} (does : Doing S) (holds : S → State) (exact : IsExact holds does) (z : State) (used : List Digest) where
  -- what is decided
  pub divides_into : (back away : List Digest) (s t : S) → holds s ≡ z → IsUsed z used → DividesAll does used s ([], []) (Ok tt) t (back, away) → (holds t ≡ z) × Decided z back away
  divides_into back away s t h k x =
      let a = (divides_all does holds exact z used).done s t ([], []) (back, away) h x in (
        a.0,
        record {
          whole = k.whole;
          goes_back = λ q i. goes_back q (a.1.0.only q i);
          goes_away = λ q i. goes_away q (a.1.1.only q i);
          all = λ q o i. all a.1 q o (either does holds exact z used q i);
        },
      )
    where
      goes_back : (q : Digest) → (is_in q [] ≡ true) ⊎ Own (Back z used) z q → (z.own q ≡ true) × FoundHas z q × IsRight q (z.aside q)
      goes_back q (inl e) = in_none q e
      goes_back q (inr (o, (i, r))) = (o, (k.decides q).0 i, r)

      goes_away : (q : Digest) → (is_in q [] ≡ true) ⊎ Own (Away z used) z q
          → (z.own q ≡ true) × IsSome (z.aside q) × (FoundHas z q → IsRight q (z.aside q) → ⊥)
      goes_away q (inl e) = in_none q e
      goes_away q (inr (o, (i, n))) = (o, i, λ f r. n ((k.decides q).1 f, r))

      all : AddsTo (Own (Back z used) z) (Own (Away z used) z) ([], []) (back, away)
          → (q : Digest) → z.own q ≡ true → Back z used q ⊎ Away z used q → (is_in q back ≡ true) ⊎ (is_in q away ≡ true)
      all a q o (inl b) = inl (a.0.all q (o, b))
      all a q o (inr b) = inr (a.1.all q (o, b))

  -- or why nothing is
  pub divides_not : (v : List Digest × List Digest) (s t : S) (r : Refusal) → holds s ≡ z → DividesAll does used s ([], []) (Err r) t v → (holds t ≡ z) × IsNoMemory r
  divides_not v s t r h x = (divides_all does holds exact z used).stopped s t ([], []) v r h x
