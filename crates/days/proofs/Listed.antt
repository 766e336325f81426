-- What an exact store holds once the names of pieces that are not there are listed, and while the pieces are seen to then.
-- Assumes nothing.
use Rattle.std.proofs.Common.{◌≡◌, ◌≢◌, ℕ, suc, ◌<◌, ◌≤◌, ◌⊎◌, inl, inr, ap, sym, subst, refl, ◌∙◌, arith, true, false, Bool, List, [], length, slice_index_or, nat_le, cond, Some, Ok, Err, Option}
use Rattle.std.proofs.Math.Nat.{le-suc_iff}
use Rattle.cutting.specs.declared.refusal.Refusal.{Refusal}
use Rattle.cutting.specs.declared.refusal.Refusal.TheVariants.{NoMemory, TooManyNames}
use Rattle.digest.specs.declared.value.Digest.{Digest}
use Rattle.digest.specs.Digests.{digest_of}
use Rattle.store.specs.declared.listing.Listing.{Listing}
use Rattle.store.specs.declared.piece.Spot.TheVariants.{Place}
use Rattle.store.specs.Asking.{Doing, IsExact}
use Rattle.store.specs.Effects.{Does, with_listing, with_place}
use Rattle.store.specs.Loops.{Times, at}
use Rattle.store.specs.Requests.{Answer, Read, Enlist, Write, Done, Bytes, Refused}
use Rattle.store.specs.State.{State, most_names, same_listing, same_name}
use Rattle.store.proofs.Equality.{names_decide}
use Rattle.store.proofs.Exact.{Enlisted, enlisted, read, wrote}
use Rattle.days.specs.Promise.{OnlyLists}
use Rattle.days.specs.Steps.{ListsAbsent, SeesPiece, SeesTo, enlist, write}
use Rattle.days.proofs.Moves.{listed_here, unmoved}
use Rattle.days.proofs.Seen.{listed_only, only_same, only_then, times_run}

-- nothing is read, and a piece is not written, only for want of memory; a name is not listed also where the lists are full
wanting : (p : Answer × State) (w : Bool) (s t : State) (r : Refusal) → (p.0 ≡ Refused r → r ≡ NoMemory) → (p ≡ (Refused r, t)) ⊎ ((w ≡ true) × (Refused r ≡ Refused NoMemory) × (t ≡ s)) → r ≡ NoMemory
wanting p w s t r f (inl e) = f (ap (λ x. x.0) e)
wanting p w s t r f (inr (is, e, same)) = cc

not_read : (s t : State) (n : Digest) (r : Refusal) → Does s (Read Place n) (Refused r) t → r ≡ NoMemory
not_read s t n r h = wanting _ _ s t r (λ (e : Bytes (s.place n) ≡ Refused r). absurd cc) h

not_written : (s t : State) (n : Digest) (b : List ℕ) (r : Refusal) → Does s (Write n b) (Refused r) t → r ≡ NoMemory
not_written s t n b r h = wanting _ _ s t r (λ (e : Done ≡ Refused r). absurd cc) h

not_enlisted : (there full : Bool) (s t u : State) (r : Refusal) → ◌≡◌ {A = Answer × State} (cond there (Done, s) (cond full (Refused TooManyNames, s) (Done, t))) (Refused r, u) → (there ≡ false) × (r ≡ TooManyNames)
not_enlisted true full s t u r e =
    let f : Done ≡ Refused r = ap (λ x. x.0) e in
    absurd cc
not_enlisted false true s t u r e =
    let f : Refused TooManyNames ≡ Refused r = ap (λ x. x.0) e in
    (refl, cc)
not_enlisted false false s t u r e =
    let f : Done ≡ Refused r = ap (λ x. x.0) e in
    absurd cc

not_kept : (there full : Bool) → cond there false (cond full false true) ≡ true → there ≡ false
not_kept true full e = absurd cc
not_kept false full e = refl

-- and only where it is not listed
not_listed : (s t : State) (l : Listing) (r : Refusal) → Does s (Enlist l) (Refused r) t → (s.listed l ≡ false) × ((r ≡ NoMemory) ⊎ (r ≡ TooManyNames))
not_listed s t l r (inl e) =
    let x = not_enlisted (s.listed l) (nat_le most_names s.names) s (with_listing l s) t r e in
    (x.0, inr x.1)
not_listed s t l r (inr (is, e, same)) = (not_kept (s.listed l) (nat_le most_names s.names) is, inl cc)

-- a name that is listed stays listed, and is listed once it was added
still_listed : (l q : Listing) (s : State) → s.listed q ≡ true → (with_listing l s).listed q ≡ true
still_listed l q s h = go (same_listing l q)
  where
    go : (c : Bool) → cond c true (s.listed q) ≡ true
    go true = refl
    go false = h

keeps_listed : (l q : Listing) (s t : State) → Enlisted s l t → s.listed q ≡ true → t.listed q ≡ true
keeps_listed l q s t (inl (there, same)) h = ap (λ (z : State). z.listed q) (sym same) ∙ h
keeps_listed l q s t (inr (new, few, is)) h = ap (λ (z : State). z.listed q) (sym is) ∙ still_listed l q s h

is_listed : (l : Listing) (s t : State) → Enlisted s l t → t.listed l ≡ true
is_listed l s t (inl (there, same)) = ap (λ (z : State). z.listed l) (sym same) ∙ there
is_listed l s t (inr (new, few, is)) = ap (λ (z : State). z.listed l) (sym is) ∙ listed_here l s

-- where it was listed before, nothing is changed
listed_before : (l : Listing) (s t : State) → Enlisted s l t → s.listed l ≡ true → t ≡ s
listed_before l s t (inl (there, same)) h = sym same
listed_before l s t (inr (new, few, is)) h =
    let f : false ≡ true = sym new ∙ h in
    absurd cc

-- a machine's listing of the name of a piece
abbrev pub listing : ℕ → List ℕ → Listing
listing i p = record { machine = i; name = digest_of p }

-- a piece that is to be seen to is there, or its name is listed
abbrev pub Ready : ℕ → State → List ℕ → Type 0
Ready i s p = (s.place (digest_of p) ≡ Some p) ⊎ (s.listed (listing i p) ≡ true)

-- so are the first k of these
abbrev pub AllReady : ℕ → List (List ℕ) → ℕ → State → Type 0
AllReady i ps k s = (j : ℕ) → j < k → Ready i s (slice_index_or ps j [])

-- and one more
ready_more : (i : ℕ) (ps : List (List ℕ)) (k : ℕ) (s : State) → AllReady i ps k s → Ready i s (slice_index_or ps k []) → AllReady i ps (suc k) s
ready_more i ps k s before here j l = go (le-suc_iff.0 l)
  where
    go : (suc j ≤ k) ⊎ (suc j ≡ suc k) → Ready i s (slice_index_or ps j [])
    go (inl less) = before j (omega (arith, less))
    go (inr e) =
        let same : j ≡ k = omega (arith, e) in
        subst (λ n. Ready i s (slice_index_or ps n [])) (sym same) here

-- they stay so where a name is listed, and where a piece is written whose name is listed
ready_listed : (i : ℕ) (p : List ℕ) (l : Listing) (s t : State) → Enlisted s l t → Ready i s p → Ready i t p
ready_listed i p l s t e (inl there) = inl (ap (λ (f : Digest → Option (List ℕ)). f (digest_of p)) (listed_only s t l e).place ∙ there)
ready_listed i p l s t e (inr h) = inr (keeps_listed l (listing i p) s t e h)

ready_written : (i : ℕ) (p q : List ℕ) (s : State) → s.listed (listing i q) ≡ true → Ready i s p → Ready i (with_place (digest_of q) (Some q) s) p
ready_written i p q s h (inr l) = inr l
ready_written i p q s h (inl there) = go (same_name (digest_of q) (digest_of p)) refl
  where
    go : (c : Bool) → same_name (digest_of q) (digest_of p) ≡ c → Ready i (with_place (digest_of q) (Some q) s) p
    go true e = inr (subst (λ n. s.listed (record { machine = i; name = n }) ≡ true) ((names_decide (digest_of q) (digest_of p)).0 e) h)
    go false e = inl (rw e there)

-- what is so once a piece is looked for, and listed where it is not there
pub record LookedFor (i : ℕ) (p : List ℕ) (s t : State) : Type 0 where
  pub only : OnlyLists s t
  pub ready : Ready i t p
  pub others : (q : List ℕ) → Ready i s q → Ready i t q

module _ {S : Type 0} (does : Doing S) (holds : S → State) (exact : IsExact holds does) (i : ℕ) where
  -- a name is listed after its place was read
  pub lists_after : (p : List ℕ) (b : Option (List ℕ)) (s m t : S) → does s (Read Place (digest_of p)) (Bytes b) m → does m (enlist i p) Done t → Enlisted (holds s) (listing i p) (holds t)
  lists_after p b s m t asked listed = subst (λ (z : State). Enlisted z (listing i p) (holds t)) (read _ _ Place (digest_of p) b (exact s m _ _ asked)).0 (enlisted _ _ _ (exact m t _ _ listed))

  pub looked_for : (p : List ℕ) (s t : S) (u v : Unit {0}) → ListsAbsent does i p s u (Ok tt) t v → LookedFor i p (holds s) (holds t)
  looked_for p s t u v (inl (m, asked, last)) =
      let k = read _ _ Place (digest_of p) (Some p) (exact s m _ _ asked) in
      subst (LookedFor i p (holds s)) (sym (ap holds last ∙ k.0)) (record { only = only_same refl; ready = inl k.1; others = λ q h. h })
  looked_for p s t u v (inr (b, other, (m, asked, (m', listed, last)))) =
      let e = lists_after p b s m m' asked listed in
      subst (LookedFor i p (holds s)) (ap holds (sym last))
      (record { only = listed_only _ _ _ e; ready = inr (is_listed (listing i p) (holds s) (holds m') e); others = λ q h. ready_listed i q (listing i p) (holds s) (holds m') e h })

  -- the names of the first k pieces are listed
  pub record AllListed (ps : List (List ℕ)) (s : State) (k : ℕ) (t : S) : Type 0 where
    pub only : OnlyLists s (holds t)
    pub ready : AllReady i ps k (holds t)

  pub all_listed : (ps : List (List ℕ)) (k : ℕ) (s t : S) (u v : Unit {0}) → k ≤ length ps → Times (at [] (ListsAbsent does i) ps) k s u t v → AllListed ps (holds s) k t
  all_listed ps k s t u v le h =
      times_run _ (AllListed ps (holds s)) (length ps) s u (record { only = only_same refl; ready = λ j l. absurd (omega (arith, l)) })
      (λ j m t w v lt before g.
      let now = looked_for (slice_index_or ps j []) m t w v g in
      record { only = only_then before.only now.only; ready = ready_more i ps j (holds t) (λ q l. now.others _ (before.ready q l)) now.ready })
      k t v le h

  -- a piece that is not looked for or not listed: there is no memory, or the lists are full, and nothing is changed
  pub not_looked_for : (p : List ℕ) (s t : S) (u v : Unit {0}) (r : Refusal) → ListsAbsent does i p s u (Err r) t v → (holds t ≡ holds s) × ((r ≡ NoMemory) ⊎ (r ≡ TooManyNames))
  not_looked_for p s t u v r (inl (m, asked, last)) = (unmoved does holds exact s t (Read Place (digest_of p)) r (m, asked, last), inl (not_read _ _ (digest_of p) r (exact s m _ _ asked)))
  not_looked_for p s t u v r (inr (b, other, (m, asked, (m', listed, last)))) =
      (unmoved does holds exact m t (enlist i p) r (m', listed, last) ∙ (read _ _ Place (digest_of p) b (exact s m _ _ asked)).0, (not_listed _ _ _ r (exact m m' _ _ listed)).1)

  -- a piece that is not found, but is there or listed, is listed
  absent_listed : (p : List ℕ) (b : Option (List ℕ)) (s m : S) → does s (Read Place (digest_of p)) (Bytes b) m → b ≢ Some p → Ready i (holds s) p → (holds s).listed (listing i p) ≡ true
  absent_listed p b s m asked other (inl there) = absurd (other (sym (read _ _ Place (digest_of p) b (exact s m _ _ asked)).1 ∙ there))
  absent_listed p b s m asked other (inr l) = l

  -- so where such a piece is seen to, and not found, nothing is done but that it is written
  pub writes_only : (p : List ℕ) (s t : S) → Ready i (holds s) p → SeesTo does i p s (Ok true) t → ((holds s).listed (listing i p) ≡ true) × (with_place (digest_of p) (Some p) (holds s) ≡ holds t)
  writes_only p s t h (b, other, (m, asked, (m', listed, (m'', written, last)))) =
      let l = absent_listed p b s m asked other h in
      let e = listed_before (listing i p) (holds s) (holds m') (lists_after p b s m m' asked listed) l in
      (l, ap (with_place (digest_of p) (Some p)) (sym e) ∙ wrote _ _ (digest_of p) p (exact m' m'' _ _ written) ∙ ap holds (sym last))

  -- and where it is not seen to, there is no memory, and nothing is changed
  pub not_seen_to : (p : List ℕ) (s t : S) (r : Refusal) → Ready i (holds s) p → SeesTo does i p s (Err r) t → (holds t ≡ holds s) × (r ≡ NoMemory)
  not_seen_to p s t r h (inl (m, asked, last)) = (unmoved does holds exact s t (Read Place (digest_of p)) r (m, asked, last), not_read _ _ (digest_of p) r (exact s m _ _ asked))
  not_seen_to p s t r h (inr (b, other, inl (m, asked, (m', listed, last)))) =
      let l = absent_listed p b s m asked other h in
      let f : true ≡ false = sym l ∙ ap (λ (z : State). z.listed (listing i p)) (sym (read _ _ Place (digest_of p) b (exact s m _ _ asked)).0) ∙ (not_listed _ _ (listing i p) r (exact m m' _ _ listed)).0 in
      absurd cc
  not_seen_to p s t r h (inr (b, other, inr (m, asked, (m', listed, (m'', written, last))))) =
      let l = absent_listed p b s m asked other h in
      let e = listed_before (listing i p) (holds s) (holds m') (lists_after p b s m m' asked listed) l in
      (unmoved does holds exact m' t (write p) r (m'', written, last) ∙ e, not_written _ _ (digest_of p) p r (exact m' m'' _ _ written))

  -- what is there or listed stays so while pieces are seen to
  pub ready_seen : (p q : List ℕ) (s t : S) (b : Bool) → SeesTo does i q s (Ok b) t → Ready i (holds s) p → Ready i (holds t) p
  ready_seen p q s t false (m, asked, last) h = subst (λ z. Ready i z p) (sym (ap holds last ∙ (read _ _ Place (digest_of q) (Some q) (exact s m _ _ asked)).0)) h
  ready_seen p q s t true (b, other, (m, asked, (m', listed, (m'', written, last)))) h =
      let e = lists_after q b s m m' asked listed in
      subst (λ z. Ready i z p) (wrote _ _ (digest_of q) q (exact m' m'' _ _ written) ∙ ap holds (sym last))
      (ready_written i p q (holds m') (is_listed (listing i q) (holds s) (holds m') e) (ready_listed i p (listing i q) (holds s) (holds m') e h))

  pub still_ready : (ps : List (List ℕ)) (k : ℕ) (s t : S) (u v : ℕ) → k ≤ length ps → AllReady i ps (length ps) (holds s) → Times (at [] (SeesPiece does i) ps) k s u t v → AllReady i ps (length ps) (holds t)
  still_ready ps k s t u v le ready h =
      times_run _ (λ j m. AllReady i ps (length ps) (holds m)) (length ps) s u ready (λ j m t w v lt before g. λ q l. ready_seen _ (slice_index_or ps j []) m t g.0 g.1 (before q l)) k t v le h
