-- What the store in memory holds after a change: under one name, in one list, of one day or of one machine.
-- Assumes nothing.
use Rattle.std.proofs.Common.{◌≡◌, ℕ, ◌∙◌, ◌+◌, ◌<◌, ◌≤◌, ◌&&◌, ◌||◌, arith, Bool, true, false, cond, Decides, List, [], ◌∷◌, Ok, Err, Some, None, Option, Result, refl, subst, sym, ap, length}
use Rattle.std.specs.BTreeMap as tree
use Rattle.std.specs.BTreeMap.{BTreeMap, is_at}
use Rattle.std.specs.BTreeSet as sorted
use Rattle.std.specs.BTreeSet.{BTreeSet}
use Rattle.std.specs.Map.{update, lookup}
use Rattle.std.specs.Prelude.{is_some, nat_eq, nat_le, unwrap_or, vec_items, Vec}
use Rattle.std.specs.List.{cons_option, filter_map, list_any}
use Rattle.std.specs.Ordering.{nat_cmp}
use Rattle.std.proofs.lemmas.Bool.Decides.{nat_tests}
use Rattle.cutting.specs.declared.refusal.Refusal.{Refusal}
use Rattle.cutting.specs.declared.refusal.Refusal.TheVariants.{DayIsThere, TooManyNames, Unknown}
use Rattle.std.specs.declared.alloc.Global.{Global}
use Rattle.std.specs.Option.{IfSome, option_and_then, option_map}
use Rattle.digest.specs.declared.value.Digest.{Digest}
use Rattle.store.specs.declared.day.DayName.{DayName}
use Rattle.store.specs.declared.listing.Listing.{Listing}
use Rattle.store.specs.declared.memory.Copies.{Copies}
use Rattle.store.specs.declared.memory.Memory.{Memory}
use Rattle.store.specs.declared.piece.Spot.TheVariants.{Place, Aside}
use Rattle.store.specs.Damages.{Damages}
use Rattle.store.specs.Effects.{effect, enlist, lies, needs_memory, put_aside, put_back, with_aside, with_day, with_listing, with_lying, with_own, with_place}
use Rattle.store.specs.Requests.{Done, LetGo, NameDay, PutAside, PutBack, Raise, Refused, ThrowAway, Told, Write}
use Rattle.store.specs.Memories.{day_cmp, listing_cmp, name_cmp, state_of}
use Rattle.store.proofs.Equality.{days_decide, is_eq_nat, is_eq_then, names_decide}
use Rattle.store.specs.State.{State, is_in, most_names, same_day, same_listing, same_name}

-- a choice that comes to the same
cond_same : {A : Type 0} (b : Bool) (x y : A) → (b ≡ true → x ≡ y) → cond b x y ≡ y
cond_same true x y h = h refl
cond_same false x y h = refl

cond_ap : {A B : Type 0} (f : A → B) (b : Bool) (x y : A) → f (cond b x y) ≡ cond b (f x) (f y)
cond_ap f true x y = refl
cond_ap f false x y = refl

cond_again : {A : Type 0} (b : Bool) (x y z : A) → cond b x (cond b y z) ≡ cond b x z
cond_again true x y z = refl
cond_again false x y z = refl

is_some_map : {X : Type 0} (o : Option (Vec X Global)) → is_some (option_map vec_items o) ≡ is_some o
is_some_map None = refl
is_some_map (Some x) = refl

-- what is there already, put there again
update_same : {K A : Type 0} (same : K → K → Bool) → ((x y : K) → Decides (same x y) (x ≡ y)) → (f : K → Option A) (k : K) (w : Option A) → w ≡ f k → (q : K) → update same f k w q ≡ f q
update_same same decide f k w e q = cond_same (same k q) w (f q) (λ h. e ∙ ap f ((decide k q).0 h))

same_place : (s : State) (n : Digest) (w : Option (List ℕ)) → w ≡ s.place n → with_place n w s ≡ s
same_place s n w e = λ i. record s { place = λ q. update_same same_name names_decide s.place n w e q i }

same_aside : (s : State) (n : Digest) (w : Option (List ℕ)) → w ≡ s.aside n → with_aside n w s ≡ s
same_aside s n w e = λ i. record s { aside = λ q. update_same same_name names_decide s.aside n w e q i }

same_file : (s : State) (d : DayName) (w : Option (List ℕ)) → w ≡ s.days d → with_day d w s ≡ s
same_file s d w e = λ i. record s { days = λ q. update_same same_day days_decide s.days d w e q i }

-- what lies in its place, and aside, where a name has copies or none
abbrev pub place_of : Option Copies → Option (List ℕ)
place_of o = option_and_then (λ c. option_map vec_items c.place) o

abbrev pub aside_of : Option Copies → Option (List ℕ)
aside_of o = option_and_then (λ c. option_map vec_items c.aside) o

-- the pieces of m became p: under one name there was `old` and is `new`, and else all is as it was
pub record Change (m : Memory) (p : BTreeMap Digest Copies) (n : Digest) (old new : Option Copies) : Type 0 where
  pub was : old ≡ tree.get name_cmp m.pieces n
  pub is : (q : Digest) → tree.get name_cmp p q ≡ cond (same_name n q) new (tree.get name_cmp m.pieces q)

-- what is written through a loan
pub Change-lent : (m : Memory) (p : BTreeMap Digest Copies) (n : Digest) (c w : Copies)
    → Some c ≡ tree.get name_cmp m.pieces n → tree.WritesThrough name_cmp (name_cmp n) m.pieces w p → Change m p n (Some c) (Some w)
Change-lent m p n c w e h = record { was = e; is = (h.3 (sym (ap is_some e))).0 }

-- nothing is lent
pub Change-none : (m : Memory) (p : BTreeMap Digest Copies) (n : Digest)
    → None ≡ tree.get name_cmp m.pieces n → p ≡ m.pieces → Change m p n None None
Change-none m p n e h = record { was = e; is = λ q. ap (λ p. tree.get name_cmp p q) h ∙ sym (update_same same_name names_decide (tree.get name_cmp m.pieces) n None e q) }

-- one after the other
pub Change-again : (m : Memory) (p r : BTreeMap Digest Copies) (n : Digest) (old new last : Option Copies)
    → Change m p n old new → ((q : Digest) → tree.get name_cmp r q ≡ cond (same_name n q) last (tree.get name_cmp p q)) → Change m r n old last
Change-again m p r n old new last h f = record { was = h.was; is = λ q. f q ∙ ap (cond (same_name n q) last) (h.is q) ∙ cond_again (same_name n q) last new (tree.get name_cmp m.pieces q) }

module _ {m : Memory} {p : BTreeMap Digest Copies} {n : Digest} {old new : Option Copies} where
  -- what the store holds then
  after : Change m p n old new → state_of (record m { pieces = p }) ≡ with_aside n (aside_of new) (with_place n (place_of new) (state_of m))
  after h = λ i. record (state_of m) {
    place = λ q. (ap place_of (h.is q) ∙ cond_ap place_of (same_name n q) new (tree.get name_cmp m.pieces q)) i;
    aside = λ q. (ap aside_of (h.is q) ∙ cond_ap aside_of (same_name n q) new (tree.get name_cmp m.pieces q)) i;
  }

  after_with : Change m p n old new → (place aside : Option (List ℕ)) → place ≡ place_of new → aside ≡ aside_of new → with_aside n aside (with_place n place (state_of m)) ≡ state_of (record m { pieces = p })
  after_with h place aside e f = (λ i. with_aside n (f i) (with_place n (e i) (state_of m))) ∙ sym (after h)

  -- where no more than one of the two changes
  after_place : Change m p n old new → (place : Option (List ℕ)) → place ≡ place_of new → aside_of old ≡ aside_of new → with_place n place (state_of m) ≡ state_of (record m { pieces = p })
  after_place h place e f = sym (same_aside (with_place n place (state_of m)) n (aside_of old) (ap aside_of h.was)) ∙ after_with h place (aside_of old) e f

  after_aside : Change m p n old new → (aside : Option (List ℕ)) → aside ≡ aside_of new → place_of old ≡ place_of new → with_aside n aside (state_of m) ≡ state_of (record m { pieces = p })
  after_aside h aside e f = ap (with_aside n aside) (sym (same_place (state_of m) n (place_of old) (ap place_of h.was))) ∙ after_with h (place_of old) aside f e

  after_nothing : Change m p n old new → place_of old ≡ place_of new → aside_of old ≡ aside_of new → state_of m ≡ state_of (record m { pieces = p })
  after_nothing h e f = sym (same_place (state_of m) n (place_of old) (ap place_of h.was)) ∙ after_place h (place_of old) e f

  -- and so what the requests have done
  pub has_written : Change m p n old new → (b : List ℕ) → Some b ≡ place_of new → aside_of old ≡ aside_of new → effect (state_of m) (Write n b) ≡ (Done, state_of (record m { pieces = p }))
  has_written h b e f = λ i. (Done, after_place h (Some b) e f i)

  pub has_put_aside : Change m p n old new → (b : List ℕ) → place_of old ≡ Some b → None ≡ place_of new → Some b ≡ aside_of new → effect (state_of m) (PutAside n) ≡ (Told true, state_of (record m { pieces = p }))
  has_put_aside h b w e f = ap (λ o. put_aside n o (state_of m)) (sym (ap place_of h.was) ∙ w) ∙ (λ i. (Told true, after_with h None (Some b) e f i))

  pub had_none_to_put_aside : Change m p n old new → place_of old ≡ None → None ≡ place_of new → aside_of old ≡ aside_of new → effect (state_of m) (PutAside n) ≡ (Told false, state_of (record m { pieces = p }))
  had_none_to_put_aside h w e f = ap (λ o. put_aside n o (state_of m)) (sym (ap place_of h.was) ∙ w) ∙ (λ i. (Told false, after_nothing h (w ∙ e) f i))

  pub has_put_back : Change m p n old new → (b : List ℕ) → aside_of old ≡ Some b → Some b ≡ place_of new → None ≡ aside_of new → effect (state_of m) (PutBack n) ≡ (Told true, state_of (record m { pieces = p }))
  has_put_back h b w e f = ap (λ o. put_back n o (state_of m)) (sym (ap aside_of h.was) ∙ w) ∙ (λ i. (Told true, after_with h (Some b) None e f i))

  pub had_none_to_put_back : Change m p n old new → aside_of old ≡ None → place_of old ≡ place_of new → None ≡ aside_of new → effect (state_of m) (PutBack n) ≡ (Told false, state_of (record m { pieces = p }))
  had_none_to_put_back h w e f = ap (λ o. put_back n o (state_of m)) (sym (ap aside_of h.was) ∙ w) ∙ (λ i. (Told false, after_nothing h e (w ∙ f) i))

  pub has_thrown_away : Change m p n old new → (r : Bool) → is_some (aside_of old) ≡ r → place_of old ≡ place_of new → None ≡ aside_of new → effect (state_of m) (ThrowAway n) ≡ (Told r, state_of (record m { pieces = p }))
  has_thrown_away h r w e f = λ i. (Told ((sym (ap (λ o. is_some (aside_of o)) h.was) ∙ w) i), after_aside h None f e i)

  -- and so what damage has done
  pub has_damaged_place : Change m p n old new → aside_of old ≡ aside_of new → (least : ℕ) (harm : List ℕ → List ℕ) (r : Result (Unit {0}) Refusal)
      → Damages (place_of old) least harm (λ b _. b) (place_of old) r (place_of new) → Damages (lies Place (state_of m) n) least harm (with_lying Place n) (state_of m) r (state_of (record m { pieces = p }))
  has_damaged_place h f least harm (Ok x) d = (d.0, sym (ap place_of h.was) ∙ d.1, d.2, sym (after_place h (Some (harm d.0)) (sym d.3) f))
  has_damaged_place h f least harm (Err r) d = (d.0, subst (λ o. IfSome (place_of o) (λ b. length b < least)) h.was d.1, sym (after_nothing h (sym d.2) f))

  pub has_damaged_aside : Change m p n old new → place_of old ≡ place_of new → (least : ℕ) (harm : List ℕ → List ℕ) (r : Result (Unit {0}) Refusal)
      → Damages (aside_of old) least harm (λ b _. b) (aside_of old) r (aside_of new) → Damages (lies Aside (state_of m) n) least harm (with_lying Aside n) (state_of m) r (state_of (record m { pieces = p }))
  has_damaged_aside h f least harm (Ok x) d = (d.0, sym (ap aside_of h.was) ∙ d.1, d.2, sym (after_aside h (Some (harm d.0)) (sym d.3) f))
  has_damaged_aside h f least harm (Err r) d = (d.0, subst (λ o. IfSome (aside_of o) (λ b. length b < least)) h.was d.1, sym (after_nothing h f (sym d.2)))

-- with the same entries the store holds the same
pub same_pieces : (m : Memory) (p : BTreeMap Digest Copies) → p.entries ≡ m.pieces.entries → state_of (record m { pieces = p }) ≡ state_of m
same_pieces m p e = λ i. record (state_of m) {
  place = λ q. place_of (lookup (is_at (name_cmp q)) (e i));
  aside = λ q. aside_of (lookup (is_at (name_cmp q)) (e i));
}

-- a name that is to be added to a list: whether it is there already, what the store holds, and what it holds with the name
module _ (there : Bool) (s t : State) where
  pub is_enlisted : there ≡ true → enlist there s t ≡ (Done, s)
  is_enlisted old = ap (λ b. enlist b s t) old

  pub has_no_room : there ≡ false → most_names ≤ s.names → enlist there s t ≡ (Refused TooManyNames, s)
  has_no_room new h =
      let many : nat_le most_names s.names ≡ true = grind (arith, nat_tests) in
      λ i. cond (new i) (Done, s) (cond (many i) (Refused TooManyNames, s) (Done, t))

  pub has_enlisted : there ≡ false → s.names < most_names → (u : State) → t ≡ u → enlist there s t ≡ (Done, u)
  has_enlisted new h u e =
      let few : nat_le most_names s.names ≡ false = grind (arith, nat_tests) in
      λ i. cond (new i) (Done, s) (cond (few i) (Refused TooManyNames, s) (Done, e i))

-- where memory may be wanting
pub wants_room : (there : Bool) (s : State) → there ≡ false → s.names < most_names → cond there false (cond (nat_le most_names s.names) false true) ≡ true
wants_room there s new h =
    let few : nat_le most_names s.names ≡ false = grind (arith, nat_tests) in
    λ i. cond (new i) false (cond (few i) false true)

-- the lists, after a name more is on one
module _ (m : Memory) (ls : BTreeSet Listing) where
  pub same_lists : ls.keys ≡ m.listed.keys → state_of (record m { listed = ls }) ≡ state_of m
  same_lists e = λ i. record (state_of m) { listed = λ l. list_any (is_at (listing_cmp l)) (e i); names = length (e i) + length m.own.keys }

  pub after_listing : (l : Listing) → ((q : Listing) → sorted.contains listing_cmp ls q ≡ cond (same_listing l q) true (sorted.contains listing_cmp m.listed q))
      → length ls.keys ≡ length m.listed.keys + 1 → with_listing l (state_of m) ≡ state_of (record m { listed = ls })
  after_listing l h n =
      let more : (length m.listed.keys + length m.own.keys) + 1 ≡ length ls.keys + length m.own.keys = omega arith in
      λ i. record (state_of m) { listed = λ q. sym (h q) i; names = more i }

module _ (m : Memory) (ns : BTreeSet Digest) where
  pub same_own : ns.keys ≡ m.own.keys → state_of (record m { own = ns }) ≡ state_of m
  same_own e = λ i. record (state_of m) { own = λ n. list_any (is_at (name_cmp n)) (e i); names = length m.listed.keys + length (e i) }

  pub after_own : (n : Digest) → ((q : Digest) → sorted.contains name_cmp ns q ≡ cond (same_name n q) true (sorted.contains name_cmp m.own q))
      → length ns.keys ≡ length m.own.keys + 1 → with_own n (state_of m) ≡ state_of (record m { own = ns })
  after_own n h e =
      let more : (length m.listed.keys + length m.own.keys) + 1 ≡ length m.listed.keys + length ns.keys = omega arith in
      λ i. record (state_of m) { own = λ q. sym (h q) i; names = more i }

-- the names in the list of a machine
abbrev pub name_in : ℕ → Listing → Option Digest
name_in m l = cond (nat_eq m l.machine) (Some l.name) None

is_in-if : (b : Bool) (n x : Digest) (ns : List Digest) → is_in n (cons_option (cond b (Some x) None) ns) ≡ ((b && same_name n x) || is_in n ns)
is_in-if true n x ns = refl
is_in-if false n x ns = refl

pub is_in-names : (m : ℕ) (n : Digest) (ls : List Listing) → is_in n (filter_map (name_in m) ls) ≡ list_any (same_listing (record { machine = m; name = n })) ls
is_in-names m n [] = refl
is_in-names m n (l ∷ ls) =
    let same : same_listing (record { machine = m; name = n }) l ≡ (nat_eq m l.machine && same_name n l.name) = is_eq_then (nat_cmp m l.machine) _ ∙ ap (λ b. b && same_name n l.name) (is_eq_nat m l.machine) in
    is_in-if (nat_eq m l.machine) n l.name (filter_map (name_in m) ls) ∙ (λ i. sym same i || is_in-names m n ls i)

-- the days, after one is named or let go
module _ (m : Memory) (ds : BTreeMap DayName (Vec ℕ Global)) (d : DayName) where
  pub same_days : ds.entries ≡ m.days.entries → state_of (record m { days = ds }) ≡ state_of m
  same_days e = λ i. record (state_of m) { days = λ q. option_map vec_items (lookup (is_at (day_cmp q)) (e i)) }

  after_day : (w : Option (Vec ℕ Global)) → ((q : DayName) → tree.get day_cmp ds q ≡ cond (same_day d q) w (tree.get day_cmp m.days q))
      → with_day d (option_map vec_items w) (state_of m) ≡ state_of (record m { days = ds })
  after_day w h = λ i. record (state_of m) { days = λ q. sym (ap (option_map vec_items) (h q) ∙ cond_ap (option_map vec_items) (same_day d q) w (tree.get day_cmp m.days q)) i }

  pub has_named : (v : Vec ℕ Global) (ps : List ℕ) → v.items ≡ ps → is_some (tree.get day_cmp m.days d) ≡ false
      → ((q : DayName) → tree.get day_cmp ds q ≡ cond (same_day d q) (Some v) (tree.get day_cmp m.days q))
      → effect (state_of m) (NameDay d ps) ≡ (Done, state_of (record m { days = ds }))
  has_named v ps e new h =
      let s : State = state_of m in
      (λ i. cond ((is_some_map (tree.get day_cmp m.days d) ∙ new) i) (Refused DayIsThere, s) (Done, with_day d (Some (sym e i)) s)) ∙ (λ i. (Done, after_day (Some v) h i))

  pub has_let_go : is_some (tree.get day_cmp m.days d) ≡ true → ((q : DayName) → tree.get day_cmp ds q ≡ cond (same_day d q) None (tree.get day_cmp m.days q))
      → effect (state_of m) (LetGo d) ≡ (Done, state_of (record m { days = ds }))
  has_let_go old h =
      let s : State = state_of m in
      (λ i. cond ((is_some_map (tree.get day_cmp m.days d) ∙ old) i) (Done, with_day d None s) (Refused Unknown, s)) ∙ (λ i. (Done, after_day None h i))

  pub knows_no_day : is_some (tree.get day_cmp m.days d) ≡ false → ds.entries ≡ m.days.entries → effect (state_of m) (LetGo d) ≡ (Refused Unknown, state_of (record m { days = ds }))
  knows_no_day none e =
      let s : State = state_of m in
      (λ i. cond ((is_some_map (tree.get day_cmp m.days d) ∙ none) i) (Done, with_day d None s) (Refused Unknown, s)) ∙ (λ i. (Refused Unknown, sym (same_days e) i))

  -- and after one is damaged
  pub has_damaged_day : (c w : Vec ℕ Global) → Some c ≡ tree.get day_cmp m.days d → tree.WritesThrough day_cmp (day_cmp d) m.days w ds → (least : ℕ) (harm : List ℕ → List ℕ) (r : Result (Unit {0}) Refusal)
      → Damages (Some c.items) least harm (λ b _. b) (Some c.items) r (Some w.items) → Damages ((state_of m).days d) least harm (with_day d) (state_of m) r (state_of (record m { days = ds }))
  has_damaged_day c w e h least harm (Ok x) a =
      (a.0, ap (option_map vec_items) (sym e) ∙ a.1, a.2, sym (after_day (Some w) (h.3 (sym (ap is_some e))).0) ∙ (λ i. with_day d (a.3 i) (state_of m)))
  has_damaged_day c w e h least harm (Err r) a =
      (a.0, subst (λ o. IfSome (option_map vec_items o) (λ b. length b < least)) e a.1, sym (after_day (Some w) (h.3 (sym (ap is_some e))).0) ∙ same_file (state_of m) d (Some w.items) (a.2 ∙ ap (option_map vec_items) e))

pub has_day : (m : Memory) (d : DayName) (ps : List ℕ) → is_some (tree.get day_cmp m.days d) ≡ true → effect (state_of m) (NameDay d ps) ≡ (Refused DayIsThere, state_of m)
has_day m d ps old =
    let s : State = state_of m in
    λ i. cond ((is_some_map (tree.get day_cmp m.days d) ∙ old) i) (Refused DayIsThere, s) (Done, with_day d (Some ps) s)

-- the highest numbers, after one is set
module _ (m : Memory) (hs : BTreeMap ℕ ℕ) where
  pub same_highest : hs.entries ≡ m.highest.entries → state_of (record m { highest = hs }) ≡ state_of m
  same_highest e = λ i. record (state_of m) { highest = λ q. unwrap_or (lookup (is_at (nat_cmp q)) (e i)) 0 }

  pub has_raised : (k n : ℕ) → ((q : ℕ) → tree.get nat_cmp hs q ≡ cond (is_at (nat_cmp k) q) (Some n) (tree.get nat_cmp m.highest q))
      → effect (state_of m) (Raise k n) ≡ (Done, state_of (record m { highest = hs }))
  has_raised k n h =
      let at : (q : ℕ) → unwrap_or (tree.get nat_cmp hs q) 0 ≡ cond (nat_eq k q) n (unwrap_or (tree.get nat_cmp m.highest q) 0) = λ q. ap (λ o. unwrap_or o 0) (h q) ∙ cond_ap (λ o. unwrap_or o 0) (is_at (nat_cmp k) q) (Some n) (tree.get nat_cmp m.highest q) ∙ ap (λ b. cond b n (unwrap_or (tree.get nat_cmp m.highest q) 0)) (is_eq_nat k q) in
      λ i. (Done, record (state_of m) { highest = λ q. sym (at q) i })

-- where memory may be wanting
pub wants_day : (m : Memory) (d : DayName) (ps : List ℕ) → is_some (tree.get day_cmp m.days d) ≡ false → needs_memory (state_of m) (NameDay d ps) ≡ true
wants_day m d ps new = λ i. cond ((is_some_map (tree.get day_cmp m.days d) ∙ new) i) false true
