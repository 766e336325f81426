-- Ways of the sweeper alone: it ends a sweep, or puts aside all that is left.
-- Assumes nothing.
use Rattle.std.proofs.Common.{◌≡◌, ◌⊎◌, inl, inr, ℕ, ◌<◌, ◌≤◌, arith, Bool, true, false, List, [], ◌∷◌, length, filter, not, None, IsSome, refl, sym, ◌∙◌}
use Rattle.digest.specs.declared.value.Digest.{Digest}
use Rattle.store.specs.declared.day.DayName.{DayName}
use Rattle.store.specs.declared.sweep.Sweep.TheVariants as kept
use Rattle.store.specs.Effects.{put_aside, put_back, with_aside, with_own, with_sweep}
use Rattle.store.specs.State.{State, is_in, most_names, same_name}
use Rattle.sweeper.specs.Sweepers.{Sweeping, ends, puts, rests}
use Rattle.sweeper.specs.System as sweeping
use Rattle.promise.specs.Promise.{HasRoom}
use Rattle.promise.specs.Runs.{onward, still}
use Rattle.promise.specs.System.{World, by_sweeper}
use Rattle.promise.proofs.Finite.{in_filter}
use Rattle.promise.proofs.Names.{tests}
use Rattle.promise.proofs.Way.{Had, Way, nowhere, on, same_room}

ruleset keep = (arith, tests)

-- what the sweeper does not change
record Kept (s t : State) : Type 0 where
  days : (d : DayName) → t.days d ≡ s.days d
  machines : (i : ℕ) → t.machines i ≡ s.machines i
  highest : (i : ℕ) → t.highest i ≡ s.highest i

-- each of its steps
keeps : {v w : sweeping.World} → sweeping.Step v w → Kept v.store w.store
keeps (sweeping.puts_aside w n left e o) = record { days = λ d. grind keep; machines = λ i. grind keep; highest = λ i. grind keep }
keeps (sweeping.puts_back w n back away e) = record { days = λ d. grind keep; machines = λ i. grind keep; highest = λ i. grind keep }
keeps k = record { days = λ d. refl; machines = λ i. refl; highest = λ i. refl }

-- a way of the sweeper alone, and one after the other
pub record Alone (v w : World) : Type 0 where
  pub way : Way v w
  pub makes : (i : ℕ) → w.makes i ≡ v.makes i
  pub highest : (i : ℕ) → w.store.highest i ≡ v.store.highest i

pub alone_on : {u v w : World} → Alone u v → Alone v w → Alone u w
alone_on a b = record { way = on a.way b.way; makes = λ i. b.makes i ∙ a.makes i; highest = λ i. b.highest i ∙ a.highest i }

-- a world without what machines make; and one with another store and another sweeper
abbrev pub plain : World → sweeping.World
plain w = record { store = w.store; sweeper = w.sweeper }

abbrev pub after : World → State → Sweeping → World
after w s x = record { store = s; makes = w.makes; sweeper = x }

-- a step of the sweeper, where it leaves it room
steps : (w : World) (s : State) (x : Sweeping) → (((n : Digest) → Had w n → Had (after w s x) n) → (ns : List Digest) → HasRoom ns w → HasRoom ns (after w s x)) → sweeping.Step (plain w) (record { store = s; sweeper = x }) → Alone w (after w s x)
steps w s x room k =
    record {
      way = record { run = onward still (by_sweeper w.makes k); days = λ d b e. h.days d ∙ e; had = λ n a. had n a; on_list = h.machines; highest = λ i. omega (arith, h.highest i); room = room (λ n a. has n a) };
      makes = λ i. refl;
      highest = h.highest;
    }
  where
    h : Kept w.store s
    h = keeps k

    had : (n : Digest) → Had (after w s x) n → Had w n
    had n (inl (d, es, e, m)) = inl (d, es, (e.0, sym (h.days d) ∙ e.1), m)
    had n (inr (i, c, o, e, m)) = inr (i, c, sym (h.machines i) ∙ o, e, m)

    has : (n : Digest) → Had w n → Had (after w s x) n
    has n (inl (d, es, e, m)) = inl (d, es, (e.0, h.days d ∙ e.1), m)
    has n (inr (i, c, o, e, m)) = inr (i, c, h.machines i ∙ o, e, m)

-- one that lists no name, and by which nothing comes to its place but what the sweeper has listed
pub sweeps : (w : World) (s : State) (x : Sweeping) → s.names ≡ w.store.names → ((n : Digest) → s.own n ≡ false → w.store.own n ≡ false) →
    ((n : Digest) → s.own n ≡ false → IsSome (s.place n) → IsSome (w.store.place n)) → sweeping.Step (plain w) (record { store = s; sweeper = x }) → Alone w (after w s x)
sweeps w s x names own place k = steps w s x (same_room w (after w s x) names own place) k

-- what is aside is in the sweeper's list
abbrev pub AsideIsOwn : State → Type 0
AsideIsOwn s = (n : Digest) → IsSome (s.aside n) → s.own n ≡ true

-- what a sweep comes to that is to put these back and throw these away
pub record Over (back away : List Digest) (v w : World) : Type 0 where
  pub alone : Alone v w
  pub rests : w.sweeper ≡ rests
  pub aside : (n : Digest) → IsSome (w.store.aside n) → IsSome (v.store.aside n) × (is_in n back ≡ true → ⊥) × (is_in n away ≡ true → ⊥)
  pub place : (n : Digest) → IsSome (w.store.place n) → IsSome (v.store.place n) ⊎ (is_in n back ≡ true)

-- it puts back and throws away one after the other
pub ends_all : (back away : List Digest) (v : World) → v.sweeper ≡ ends back away → AsideIsOwn v.store → (w : World) × Over back away v w
ends_all [] [] v e own =
    (_, record { alone = sweeps v (with_sweep kept.Rests v.store) rests refl (λ n h. h) (λ n h p. p) (sweeping.rests_again (plain v) e); rests = refl; aside = λ n h. (h, λ k. absurd cc, λ k. absurd cc); place = λ n h. inl h })
ends_all [] (n ∷ away) v e own = throws (ends_all [] away (after v (with_aside n None v.store) (ends [] away)) refl (λ q h. grind (keep, own q)))
  where
    throws : (w : World) × Over [] away (after v (with_aside n None v.store) (ends [] away)) w → (w : World) × Over [] (n ∷ away) v w
    throws (w, o) = (
      w,
      record {
        alone = alone_on (sweeps v _ _ refl (λ q h. h) (λ q h p. p) (sweeping.throws (plain v) n away e)) o.alone;
        rests = o.rests;
        aside = λ q h. let z = o.aside q h in grind keep;
        place = λ q h. o.place q h;
      },
    )
ends_all (n ∷ back) away v e own = puts_back (ends_all back away (after v (put_back n (v.store.aside n) v.store).1 (ends back away)) refl (λ q h. grind (keep, own q)))
  where
    puts_back : (w : World) × Over back away (after v (put_back n (v.store.aside n) v.store).1 (ends back away)) w → (w : World) × Over (n ∷ back) away v w
    puts_back (w, o) = (
      w,
      record {
        alone = alone_on (sweeps v _ _ (grind keep) (λ q h. grind keep) (λ q h p. let f = own q in grind keep) (sweeping.puts_back (plain v) n back away e)) o.alone;
        rests = o.rests;
        aside = λ q h. let z = o.aside q h in grind keep;
        place = λ q h. let z = o.place q h in grind keep;
      },
    )

-- a list without one of its names
without : Digest → List Digest → List Digest
without n ns = filter (λ q. not (same_name n q)) ns

-- it is no longer
no_longer : (n : Digest) (ns : List Digest) → length (without n ns) ≤ length ns
unfolding without
no_longer n [] = omega arith
no_longer n (x ∷ ns) = let ih = no_longer n ns in grind arith

-- and shorter, if the name was in it
shorter : (n : Digest) (ns : List Digest) → is_in n ns ≡ true → length (without n ns) < length ns
unfolding without
shorter n [] h = absurd cc
shorter n (x ∷ ns) h =
    let ih = shorter n ns in
    let le = no_longer n ns in
    grind keep

-- it has the others
has_others : (n q : Digest) (ns : List Digest) → same_name n q ≡ false → is_in q ns ≡ true → is_in q (without n ns) ≡ true
unfolding without
has_others n q ns d h = grind (keep, in_filter (λ x. not (same_name n x)) q ns)

-- what may be put aside: it is in its place, and nobody has it
abbrev pub MayGo : World → Digest → Type 0
MayGo w n = IsSome (w.store.place n) × (Had w n → ⊥)

-- there is room for it, and then for the others
there_is_room : (w : World) (n : Digest) → MayGo w n → w.store.own n ≡ false → (ns : List Digest) → HasRoom ns w → w.store.names < most_names
there_is_room w n (p, h) o ns r =
    let k = shorter n r.others (r.rest n (r.all n p o (λ d. h (inl d)) (λ m. h (inr m))) o) in
    omega (arith, r.room)

then_room : (w : World) (n : Digest) → MayGo w n → w.store.own n ≡ false → ((q : Digest) → Had w q → Had (after w (with_own n w.store) w.sweeper) q) → (ns : List Digest) → HasRoom ns w → HasRoom ns (after w (with_own n w.store) w.sweeper)
then_room w n (p, h) o has ns r =
    let k = shorter n r.others (r.rest n (r.all n p o (λ d. h (inl d)) (λ m. h (inr m))) o) in
    record {
      all = λ q i f d m. r.all q i (grind arith) d m;
      others = without n r.others;
      rest = λ q i f. has_others n q r.others (grind arith) (r.rest q i (grind arith));
      room = omega (arith, r.room);
    }

-- a name comes to be in the sweeper's list
record HasOwn (n : Digest) (v w : World) : Type 0 where
  alone : Alone v w
  sweeper : w.sweeper ≡ v.sweeper
  own : w.store.own n ≡ true
  listed : (q : Digest) → v.store.own q ≡ true → w.store.own q ≡ true
  place : (q : Digest) → w.store.place q ≡ v.store.place q

-- a name is in the sweeper's list, or may come to be
abbrev pub ToList : World → Digest → Type 0
ToList v n = (v.store.own n ≡ true) ⊎ MayGo v n

may_go : (v : World) (n : Digest) → ToList v n → v.store.own n ≡ false → MayGo v n
may_go v n (inl h) o = absurd cc
may_go v n (inr h) o = h

-- it lists it, where it has not
lists : (n : Digest) (left : List Digest) (v : World) → v.sweeper ≡ puts (n ∷ left) → (ns : List Digest) → HasRoom ns v → ToList v n → (w : World) × HasOwn n v w
lists n left v e ns room l = go (v.store.own n) refl
  where
    go : (b : Bool) → v.store.own n ≡ b → (w : World) × HasOwn n v w
    go true o = (v, record { alone = record { way = nowhere v; makes = λ i. refl; highest = λ i. refl }; sweeper = refl; own = o; listed = λ q h. h; place = λ q. refl })
    go false o = (
      _,
      record {
        alone = steps v (with_own n v.store) v.sweeper (then_room v n (may_go v n l o) o) (sweeping.lists (plain v) n left e o (there_is_room v n (may_go v n l o) o ns room));
        sweeper = refl;
        own = grind keep;
        listed = λ q h. grind keep;
        place = λ q. refl;
      },
    )

-- what is in its place then was so before, and was not to be put aside
abbrev pub Spares : List Digest → World → World → Type 0
Spares left v w = (n : Digest) → IsSome (w.store.place n) → IsSome (v.store.place n) × (is_in n left ≡ true → ⊥)

-- all that is to be put aside is
pub record AllAside (left : List Digest) (v w : World) : Type 0 where
  pub alone : Alone v w
  pub puts : w.sweeper ≡ puts []
  pub place : Spares left v w

-- it lists and puts aside one after the other
pub puts_all : (left : List Digest) (v : World) → v.sweeper ≡ puts left → (ns : List Digest) → HasRoom ns v → ((n : Digest) → is_in n left ≡ true → ToList v n) → (w : World) × AllAside left v w
puts_all [] v e ns room l = (v, record { alone = record { way = nowhere v; makes = λ i. refl; highest = λ i. refl }; puts = e; place = λ n h. (h, λ k. absurd cc) })
puts_all (n ∷ left) v e ns room l =
    let (w, h) = lists n left v e ns room (l n (grind keep)) in
    more w h (puts_all left (after w (put_aside n (w.store.place n) w.store).1 (puts left)) refl ns ((one w h).way.room ns room) (still_listed w h))
  where
    one : (w : World) → HasOwn n v w → Alone v (after w (put_aside n (w.store.place n) w.store).1 (puts left))
    one w h = alone_on h.alone (sweeps w _ _ (grind keep) (λ q f. grind keep) (λ q f p. grind keep) (sweeping.puts_aside (plain w) n left (h.sweeper ∙ e) h.own))

    other : (w : World) → HasOwn n v w → (q : Digest) → IsSome (v.store.place q) → ((put_aside n (w.store.place n) w.store).1.own q ≡ true) ⊎ IsSome ((put_aside n (w.store.place n) w.store).1.place q)
    other w h q p = let e = h.place q in let o = h.own in grind keep

    still : (w : World) → HasOwn n v w → (q : Digest) → ToList v q → ToList (after w (put_aside n (w.store.place n) w.store).1 (puts left)) q
    still w h q (inl o) = let f = h.listed q o in inl (grind keep)
    still w h q (inr (p, g)) = elim (other w h q p) [ inl o ↦ inl o | inr i ↦ inr (i, λ z. g ((one w h).way.had q z)) ]

    still_listed : (w : World) → HasOwn n v w → (q : Digest) → is_in q left ≡ true → ToList (after w (put_aside n (w.store.place n) w.store).1 (puts left)) q
    still_listed w h q m = still w h q (l q (grind keep))

    more : (w : World) → HasOwn n v w → (x : World) × AllAside left (after w (put_aside n (w.store.place n) w.store).1 (puts left)) x → (x : World) × AllAside (n ∷ left) v x
    more w h (x, a) = (
      x,
      record {
        alone = alone_on (one w h) a.alone;
        puts = a.puts;
        place = λ q k. let z = a.place q k in let y = h.place q in grind keep;
      },
    )
