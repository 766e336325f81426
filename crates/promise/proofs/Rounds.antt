-- From every world a way on which all goes that nobody has: machines finish their days, the sweeper comes to rest, and then makes a whole sweep.
-- Assumes nothing.
use Rattle.std.proofs.Common.{◌≡◌, ◌⊎◌, inl, inr, ⊎_elim, ℕ, suc, ◌<◌, ◌≤◌, arith, Bool, true, false, List, map, None, IsSome, Decides, refl, sym, ◌∙◌}
use Rattle.std.proofs.lemmas.Bool.Decides.{not_from_Decides}
use Rattle.std.proofs.lemmas.List.FromFn.{get_or-map-range_with_len}
use Rattle.std.proofs.lemmas.Option.{unwrap_or-slice_get}
use Rattle.std.specs.List.{range_with_len}
use Rattle.digest.specs.declared.value.Digest.{Digest}
use Rattle.store.specs.declared.sweep.Noted.{Noted}
use Rattle.store.specs.declared.sweep.Sweep.TheVariants as kept
use Rattle.store.specs.Effects.{with_sweep}
use Rattle.store.specs.State.{is_in, most_machines}
use Rattle.sweeper.specs.Pieces.{FoundHas, HasFinished, IsWhole}
use Rattle.sweeper.specs.Sweepers.{Sweeping, anew, ends, noted_of, puts, rests, up, waits}
use Rattle.sweeper.specs.System as sweeping
use Rattle.sweeper.specs.System.{Decided, Looked}
use Rattle.promise.specs.Promise.{AllCanGo, DayHas, HalfFullHasRoom, HasRoom, HaveNumbers, Swept}
use Rattle.promise.specs.Runs.{Reached}
use Rattle.promise.specs.System.{AreMachines, World}
use Rattle.promise.proofs.Bounds.{Bounds, bounds}
use Rattle.promise.proofs.Finite.{Finite, finite, found, found_decides, to_decide, to_look}
use Rattle.promise.proofs.Forms.{from_form}
use Rattle.promise.proofs.Kept.{days_are_whole}
use Rattle.promise.proofs.Names.{tests}
use Rattle.promise.proofs.Way.{AllTook, Had, Way, all_take, joined, nowhere, on}
use Rattle.promise.proofs.Alone.{Alone, AllAside, Over, Spares, after, alone_on, ends_all, plain, puts_all, sweeps}

ruleset keep = (arith, tests)

-- numbers can be noted
to_note : (f : ℕ → ℕ) → (h : Noted) × ((i : ℕ) → i < most_machines → noted_of h i ≡ f i)
to_note f = (record { highest = map f (range_with_len 0 most_machines) }, λ i l. unwrap_or-slice_get (map f (range_with_len 0 most_machines)) i 0 ∙ get_or-map-range_with_len f 0 most_machines i i 0 l (omega arith))

-- what a day that can be found has, a day has as long as days stay
still_has : {v w : World} → Way v w → (n : Digest) → FoundHas v.store n → DayHas w n
still_has a n f = (f.day, f.files, (f.is_there.0, a.days f.day _ f.is_there.1), f.has)

-- nothing is aside at the end of a sweep that was decided
none_aside : {v w : World} (back away : List Digest) → Bounds v → Decided v.store back away → Over back away (after v (with_sweep kept.Ends v.store) (ends back away)) w → (n : Digest) → w.store.aside n ≡ None
none_aside back away b d o n =
    let p = o.aside n in
    let l = b.own n in
    let g = d.all n in
    grind keep

-- what is put back days have
had_then : {v w : World} (back away : List Digest) → Decided v.store back away → Way v w → (n : Digest) → IsSome (v.store.place n) ⊎ (is_in n back ≡ true) → IsSome (v.store.place n) ⊎ DayHas w n
had_then back away d a n (inl h) = inl h
had_then back away d a n (inr h) = inr (still_has a n (d.goes_back n h).1)

-- a day has what is in its place and is not to be put aside
in_a_day : {v : World} (left : List Digest) → Bounds v → Looked v.store left → (n : Digest) → IsSome (v.store.place n) → (is_in n left ≡ true → ⊥) → FoundHas v.store n
in_a_day {v} left b l n p h = go (found v.store b.forms n) (found_decides b n)
  where
    go : (t : Bool) → Decides t (FoundHas v.store n) → FoundHas v.store n
    go true d = d.0 refl
    go false d = absurd (h (l.all n (b.listed n (inl p)) p (not_from_Decides false d refl)))

-- after each machine on the list had its turn, each has a day above the number that was noted
finished : {v w : World} (h : Noted) → Bounds v → v.sweeper ≡ waits h → AllTook v w → (i : ℕ) → i < most_machines → w.store.machines i ≡ true → HasFinished w.store i (noted_of h i)
finished {v} h b e t i l o =
    let n : noted_of h i ≤ v.store.highest i = (rw e at b.noted) i l in
    let (k, m, u, d) = (t.took i (sym (t.way.on_list i) ∙ o)).new in
    (k, omega arith, u, d)

-- a way at whose end nothing is aside, and nothing in its place but what days have, and each machine on the list has so many numbers left
record CleanWay (c : ℕ) (v w : World) : Type 0 where
  way : Way v w
  left : HaveNumbers c w.store
  rests : w.sweeper ≡ rests
  aside : (n : Digest) → w.store.aside n ≡ None
  place : (n : Digest) → IsSome (w.store.place n) → DayHas w n

module _ (ms : List ℕ) (are : AreMachines ms) (ns : List Digest) where
  -- a world on the way: no machine on the list makes a day, each has so many numbers left, and the sweeper has room
  record Quiet (c : ℕ) (w : World) : Type 0 where
    reached : Reached ms w
    idle : (i : ℕ) → w.store.machines i ≡ true → w.makes i ≡ None
    left : HaveNumbers c w.store
    room : HasRoom ns w

  -- what is known of it
  module _ {c : ℕ} {w : World} (q : Quiet c w) where
    bounded : Bounds w
    bounded = bounds ms are q.reached

    counted : Finite w.store
    counted = finite ms q.reached

    whole : IsWhole w.store
    whole = record { forms = λ d b f e. from_form d b (bounded.forms d b e); pieces = λ n f. days_are_whole ms are w q.reached n (f.day, f.files, f.is_there, f.has) }

    -- what no day has that can be found, nobody has
    nobody : (n : Digest) → (FoundHas w.store n → ⊥) → Had w n → ⊥
    nobody n h (inl (d, es, e, m)) = h (record { day = d; files = es; found = bounded.days d _ e.1; is_there = e; has = m })
    nobody n h (inr (i, c, o, e, m)) = let f : w.makes i ≡ None = q.idle i o in absurd cc

  -- the sweeper leaves it so
  quiet_alone : {c : ℕ} {v w : World} → Quiet c v → Alone v w → Quiet c w
  quiet_alone q a =
      record {
        reached = joined q.reached a.way.run;
        idle = λ i o. a.makes i ∙ q.idle i (sym (a.way.on_list i) ∙ o);
        left = λ i o. omega (arith, a.highest i, q.left i (sym (a.way.on_list i) ∙ o));
        room = a.way.room ns q.room;
      }

  -- it is so after each machine on the list had its turn
  quiet_took : {c : ℕ} {v w : World} → Reached ms v → HasRoom ns v → HaveNumbers (suc c) v.store → AllTook v w → Quiet c w
  quiet_took r room left t =
      record {
        reached = joined r t.way.run;
        idle = λ i o. (t.took i (sym (t.way.on_list i) ∙ o)).idle;
        left = λ i o. let p = sym (t.way.on_list i) ∙ o in omega (arith, (t.took i p).high, left i p);
        room = t.way.room ns room;
      }

  -- a way to rest
  record Rest (c : ℕ) (v w : World) : Type 0 where
    way : Way v w
    quiet : Quiet c w
    rests : w.sweeper ≡ rests

  -- one with a decision: nothing is aside then, and only what days have went back
  record Cleans (c : ℕ) (v w : World) : Type 0 where
    rest : Rest c v w
    aside : (n : Digest) → w.store.aside n ≡ None
    place : (n : Digest) → IsSome (w.store.place n) → IsSome (v.store.place n) ⊎ DayHas w n

  -- the sweeper decides, by either step, and ends its sweep
  decides : {c : ℕ} (v : World) → Quiet c v →
      ((back away : List Digest) → Decided v.store back away → sweeping.Step (plain v) (record { store = with_sweep kept.Ends v.store; sweeper = ends back away })) → (w : World) × Cleans c v w
  decides {c} v q k = decide (to_decide (bounded q) (counted q) (whole q))
    where
      end : (back away : List Digest) → Decided v.store back away → (w : World) × Over back away (after v (with_sweep kept.Ends v.store) (ends back away)) w → (w : World) × Cleans c v w
      end back away d (w, o) =
          let a : Alone v w = alone_on (sweeps v _ _ refl (λ n h. h) (λ n h p. p) (k back away d)) o.alone in (
            w,
            record {
              rest = record { way = a.way; quiet = quiet_alone q a; rests = o.rests };
              aside = none_aside back away (bounded q) d o;
              place = λ n h. had_then back away d a.way n (o.place n h);
            },
          )

      decide : (back : List Digest) × (away : List Digest) × Decided v.store back away → (w : World) × Cleans c v w
      decide (back, away, d) = end back away d (ends_all back away (after v (with_sweep kept.Ends v.store) (ends back away)) refl (bounded q).own)

  -- so it does after a wait in which each machine on the list had its turn
  waited : {c : ℕ} (v : World) (h : Noted) → Bounds v → v.sweeper ≡ waits h → (x : World) → AllTook v x → Quiet c x → (w : World) × Cleans c x w
  waited v h b e x t q = decides x q (λ back away d. sweeping.decides (plain x) h back away (t.still.sweeper ∙ e) (finished h b e t) d)

  -- whatever it does, it comes to rest after each machine on the list had its turn
  comes_to_rest : {c : ℕ} (v : World) → Bounds v → (x : World) → AllTook v x → Quiet c x → (w : World) × Rest c x w
  comes_to_rest {c} v b x t q = go v.sweeper refl
    where
      by_alone : (w : World) → Alone x w → w.sweeper ≡ rests → (w : World) × Rest c x w
      by_alone w a e = (w, record { way = a.way; quiet = quiet_alone q a; rests = e })

      go : (y : Sweeping) → v.sweeper ≡ y → (w : World) × Rest c x w
      go rests e = (x, record { way = nowhere x; quiet = q; rests = t.still.sweeper ∙ e })
      go (puts left) e =
          let k = (bounded q).is_kept in
          let f : x.sweeper ≡ puts left = t.still.sweeper ∙ e in
          by_alone _ (sweeps x x.store (up x.store.sweep) refl (λ n h. h) (λ n h p. p) (sweeping.stops (plain x))) (grind keep)
      go (waits h) e = let (w, k) = waited v h b e x t q in (w, k.rest)
      go (ends back away) e = let (w, o) = ends_all back away x (t.still.sweeper ∙ e) (bounded q).own in by_alone w o.alone o.rests
      go anew e = let (w, k) = decides x q (λ back away d. sweeping.decides_anew (plain x) back away (t.still.sweeper ∙ e) d) in (w, k.rest)

  -- a whole sweep, with a turn of each machine on the list in its wait
  round : {c : ℕ} (v : World) → Quiet (suc c) v → v.sweeper ≡ rests → (w : World) × CleanWay c v w
  round {c} v q e = look (to_look (bounded q) (counted q) (whole q))
    where
      looked : (left : List Digest) → Looked v.store left → Alone v (after v v.store (puts left))
      looked left l = sweeps v v.store (puts left) refl (λ n h. h) (λ n h p. p) (sweeping.looks (plain v) left e l)

      end : (left : List Digest) → Looked v.store left → (y : World) → Alone v y → Spares left v y → (x : World) → AllTook y x → (w : World) × Cleans c x w → (w : World) × CleanWay c v w
      end left l y a spared x t (w, k) =
          let way : Way v w = on a.way (on t.way k.rest.way) in (
            w,
            record {
              way = way;
              left = k.rest.quiet.left;
              rests = k.rest.rests;
              aside = k.aside;
              place = λ n h. ⊎_elim (λ (p : IsSome (x.store.place n)). let z = spared n (rw (t.still.place n) at p) in still_has way n (in_a_day left (bounded q) l n z.0 z.1)) (λ (d : DayHas w n). d) (k.place n h);
            },
          )

      wait : (left : List Digest) → Looked v.store left → (y : World) → Alone v y → Spares left v y → (h : Noted) → y.sweeper ≡ waits h → (x : World) × AllTook y x → (w : World) × CleanWay c v w
      wait left l y a spared h f (x, t) =
          let p = quiet_alone q a in
          end left l y a spared x t (waited y h (bounded p) f x t (quiet_took p.reached p.room p.left t))

      note : (left : List Digest) → Looked v.store left → (x : World) → AllAside left (after v v.store (puts left)) x → (h : Noted) × ((i : ℕ) → i < most_machines → noted_of h i ≡ x.store.highest i) → (w : World) × CleanWay c v w
      note left l x p (h, n) =
          let y : World = after x (with_sweep (kept.Waits h) x.store) (waits h) in
          let a : Alone v y = alone_on (looked left l) (alone_on p.alone (sweeps x (with_sweep (kept.Waits h) x.store) (waits h) refl (λ n h. h) (λ n h p. p) (sweeping.notes (plain x) h p.puts n))) in
          let r : Quiet (suc c) y = quiet_alone q a in
          wait left l y a p.place h refl (all_take (bounded r) (λ i o. omega (arith, r.left i o)))

      look : (left : List Digest) × Looked v.store left → (w : World) × CleanWay c v w
      look (left, l) = let (x, p) = puts_all left (after v v.store (puts left)) refl ns ((looked left l).way.room ns q.room) (λ n m. let z = l.spares n m in inr (z.1, nobody q n z.2)) in note left l x p (to_note x.store.highest)

  -- from a world that is reached: each machine on the list has its turn, the sweeper comes to rest, and then makes a whole sweep
  goes : (c : ℕ) (u : World) → Reached ms u → HasRoom ns u → HaveNumbers (suc (suc c)) u.store → (w : World) × Swept u w × HasRoom ns w × HaveNumbers c w.store
  goes c u reached room left = turns (all_take b (λ i o. omega (arith, left i o)))
    where
      b : Bounds u
      b = bounds ms are reached

      swept : (x : World) → AllTook u x → (y : World) → Way x y → (w : World) × CleanWay c y w → (w : World) × Swept u w × HasRoom ns w × HaveNumbers c w.store
      swept x t y a (w, s) =
          let then : Way x w = on a s.way in
          let way : Way u w = on t.way then in (
            w,
            record {
              run = way.run;
              rests = s.rests;
              nothing_aside = s.aside;
              in_place = s.place;
              days = way.days;
              machines = way.on_list;
              finished = λ i d o e. let (k, n, f) = (t.took i o).done d e in (k, n, then.days _ _ f);
              no_other = λ n h. way.had n (inl h);
            },
            way.room ns room,
            s.left,
          )

      rest : (x : World) → AllTook u x → (y : World) × Rest (suc c) x y → (w : World) × Swept u w × HasRoom ns w × HaveNumbers c w.store
      rest x t (y, r) = swept x t y r.way (round y r.quiet r.rests)

      turns : (x : World) × AllTook u x → (w : World) × Swept u w × HasRoom ns w × HaveNumbers c w.store
      turns (x, t) = rest x t (comes_to_rest {c = suc c} u b x t (quiet_took reached room left t))

-- so all can go, and again
pub all_can_go : AllCanGo
all_can_go ms are u reached k ns room left = goes ms are ns k u reached room (λ i o. omega (arith, left i o))

-- lists that are not more than half full have that room
pub half_full_has_room : HalfFullHasRoom
half_full_has_room ms are w reached few =
    let f : Finite w.store = finite ms reached in
    let b : Bounds w = bounds ms are reached in
    (f.all, f.has, record { all = λ n p o d m. f.has n (b.listed n (inl p)); others = f.all; rest = λ n i o. i; room = omega (arith, few, f.few) })
