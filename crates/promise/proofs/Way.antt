-- Ways on which machines finish their days.
-- Assumes nothing.
use Rattle.std.proofs.Common.{◌≡◌, ◌⊎◌, inl, inr, ⊎_elim, ℕ, zero, suc, ◌+◌, ◌<◌, ◌≤◌, arith, Bool, true, false, List, Some, None, Option, IsSome, refl, sym, ◌∙◌}
use Rattle.digest.specs.declared.value.Digest.{Digest}
use Rattle.store.specs.declared.day.DayName.{DayName}
use Rattle.store.specs.Effects.{with_day, with_highest}
use Rattle.store.specs.State.{is_in, last_number, most_machines}
use Rattle.dayfile.specs.Entries.{names_of}
use Rattle.dayfile.specs.Form.{day_file}
use Rattle.days.specs.Machines.{Work, new_day, with_number}
use Rattle.days.specs.System as machines
use Rattle.days.specs.System.{put}
use Rattle.sweeper.specs.Pieces.{HasFinished}
use Rattle.promise.specs.Promise.{DayHas, HasRoom, HaveNumbers, MachineKeeps}
use Rattle.promise.specs.Runs.{Run, onward, still}
use Rattle.promise.specs.System.{World, by_machine}
use Rattle.promise.proofs.Bounds.{Bounds, NumberIs, bounds_run}
use Rattle.promise.proofs.Forms.{Fit, Has, file_has, from_fit, has_then}
use Rattle.promise.proofs.Names.{tests}

ruleset keep = (arith, tests)

-- what a day has, or a file that a machine on the list has added to one
abbrev pub Had : World → Digest → Type 0
Had w n = DayHas w n ⊎ MachineKeeps w n

-- a way on which days stay, and nothing comes to be had that was not, and the sweeper's room is no less than it needs
pub record Way (v w : World) : Type 0 where
  pub run : Run v w
  pub days : (d : DayName) (b : List ℕ) → v.store.days d ≡ Some b → w.store.days d ≡ Some b
  pub had : (n : Digest) → Had w n → Had v n
  pub on_list : (i : ℕ) → w.store.machines i ≡ v.store.machines i
  pub highest : (i : ℕ) → v.store.highest i ≤ w.store.highest i
  pub room : (ns : List Digest) → HasRoom ns v → HasRoom ns w

-- the room for some names is no less where nothing comes to its place but what the sweeper has listed, and all that was had still is
pub same_room : (v w : World) → w.store.names ≡ v.store.names → ((n : Digest) → w.store.own n ≡ false → v.store.own n ≡ false) →
    ((n : Digest) → w.store.own n ≡ false → IsSome (w.store.place n) → IsSome (v.store.place n)) → ((n : Digest) → Had v n → Had w n) → (ns : List Digest) → HasRoom ns v → HasRoom ns w
same_room v w e own place has ns r =
    record {
      all = λ n p o d m. let h : Had v n → ⊥ = λ z. nobody n d m (has n z) in r.all n (place n o p) (own n o) (λ z. h (inl z)) (λ z. h (inr z));
      others = r.others;
      rest = λ n i o. r.rest n i (own n o);
      room = rw (sym e) at r.room;
    }
  where
    nobody : (n : Digest) → (DayHas w n → ⊥) → (MachineKeeps w n → ⊥) → Had w n → ⊥
    nobody n d m (inl h) = d h
    nobody n d m (inr h) = m h

-- one after the other
pub joined : {u v w : World} → Run u v → Run v w → Run u w
joined r still = r
joined r (onward s k) = onward (joined r s) k

pub on : {u v w : World} → Way u v → Way v w → Way u w
on {u} {v} {w} a b =
    record {
      run = joined a.run b.run;
      days = λ d c e. b.days d c (a.days d c e);
      had = λ n h. a.had n (b.had n h);
      on_list = λ i. b.on_list i ∙ a.on_list i;
      highest = λ i. omega (arith, a.highest i, b.highest i);
      room = λ ns h. b.room ns (a.room ns h);
    }

-- no step
pub nowhere : (w : World) → Way w w
nowhere w = record { run = still; days = λ d b e. e; had = λ n h. h; on_list = λ i. refl; highest = λ i. omega arith; room = λ ns h. h }

-- the world after a machine began a day, raised its number, and named it
abbrev begun : World → ℕ → World
begun w i = record w { makes = put i (Some new_day) w.makes }

abbrev raised : World → ℕ → Work → World
raised w i d = record { store = with_highest i (w.store.highest i + 1) w.store; makes = put i (Some (with_number (w.store.highest i + 1) d)) w.makes; sweeper = w.sweeper }

abbrev named : World → ℕ → Work → ℕ → World
named w i d k = record { store = with_day (record { machine = i; number = k }) (Some (day_file (record { machine = i; number = k }) d.files)) w.store; makes = put i None w.makes; sweeper = w.sweeper }

-- a world without what the sweeper does
abbrev plain : World → machines.World
plain w = record { store = w.store; makes = w.makes }

-- a machine begins a day
begins : (w : World) (i : ℕ) → w.store.machines i ≡ true → w.makes i ≡ None → Way w (begun w i)
begins w i o e =
    record {
      run = onward still (by_machine w.sweeper (machines.begins (plain w) i o e));
      days = λ d b h. h;
      had = λ n h. had n h;
      on_list = λ j. refl;
      highest = λ j. omega arith;
      room = same_room w (begun w i) refl (λ n o. o) (λ n o h. h) (λ n h. has n h);
    }
  where
    same : (j : ℕ) (c : Work) → w.makes j ≡ Some c → put i (Some new_day) w.makes j ≡ Some c
    same j c h = grind keep

    has : (n : Digest) → Had w n → Had (begun w i) n
    has n (inl h) = inl h
    has n (inr (j, c, p, h, m)) = inr (j, c, p, same j c h, m)

    machine : (n : Digest) (j : ℕ) (c : Work) → w.store.machines j ≡ true → put i (Some new_day) w.makes j ≡ Some c → is_in n (names_of c.files) ≡ true → w.makes j ≡ Some c
    machine n j c o h m = grind keep

    had : (n : Digest) → Had (begun w i) n → Had w n
    had n (inl h) = inl h
    had n (inr (j, c, p, h, m)) = inr (j, c, p, machine n j c p h m, m)

-- it raises the number of its day
raises : (w : World) (i : ℕ) (d : Work) → w.store.machines i ≡ true → w.makes i ≡ Some d → d.number ≡ None → w.store.highest i < last_number → Way w (raised w i d)
raises w i d o e f l =
    record {
      run = onward still (by_machine w.sweeper (machines.raises (plain w) i d (record { on_list = o; makes = e; no_number = f }) l));
      days = λ d b h. h;
      had = λ n h. had n h;
      on_list = λ j. refl;
      highest = λ j. grind keep;
      room = same_room w (raised w i d) refl (λ n o. o) (λ n o h. h) (λ n h. has n h);
    }
  where
    seen : (n : Digest) (j : ℕ) (c : Work) → w.makes j ≡ Some c → is_in n (names_of c.files) ≡ true →
        (put i (Some (with_number (w.store.highest i + 1) d)) w.makes j ≡ Some c) ⊎ (put i (Some (with_number (w.store.highest i + 1) d)) w.makes j ≡ Some (with_number (w.store.highest i + 1) d)) × (is_in n (names_of d.files) ≡ true)
    seen n j c h m = grind keep

    has : (n : Digest) → Had w n → Had (raised w i d) n
    has n (inl h) = inl h
    has n (inr (j, c, p, h, m)) = elim (seen n j c h m) [ inl g ↦ inr (j, c, p, g, m) | inr g ↦ inr (j, with_number (w.store.highest i + 1) d, p, g.0, g.1) ]

    machine : (n : Digest) (j : ℕ) (c : Work) → put i (Some (with_number (w.store.highest i + 1) d)) w.makes j ≡ Some c → is_in n (names_of c.files) ≡ true → (b : Work) × (w.makes j ≡ Some b) × (is_in n (names_of b.files) ≡ true)
    machine n j c h m = grind keep

    had : (n : Digest) → Had (raised w i d) n → Had w n
    had n (inl h) = inl h
    had n (inr (j, c, p, h, m)) = let z = machine n j c h m in inr (j, z.0, p, z.1, z.2)

-- it names its day
names : (w : World) (i : ℕ) (d : Work) (k : ℕ) → Fit d.files → w.store.machines i ≡ true → w.makes i ≡ Some d → d.number ≡ Some k → w.store.days (record { machine = i; number = k }) ≡ None → Way w (named w i d k)
names w i d k fit o e f new =
    record {
      run = onward still (by_machine w.sweeper (machines.names (plain w) i d k o e f new));
      days = λ q b h. grind keep;
      had = λ n h. had n h;
      on_list = λ j. refl;
      highest = λ j. omega arith;
      room = same_room w (named w i d k) refl (λ n o. o) (λ n o h. h) (λ n h. has n h);
    }
  where
    kept : (q : DayName) (b : List ℕ) → w.store.days q ≡ Some b → (named w i d k).store.days q ≡ Some b
    kept q b h = grind keep

    seen : (n : Digest) (j : ℕ) (c : Work) → w.makes j ≡ Some c → is_in n (names_of c.files) ≡ true → (put i None w.makes j ≡ Some c) ⊎ (is_in n (names_of d.files) ≡ true)
    seen n j c h m = grind keep

    named_it : (named w i d k).store.days (record { machine = i; number = k }) ≡ Some (day_file (record { machine = i; number = k }) d.files)
    named_it = grind keep

    has : (n : Digest) → Had w n → Had (named w i d k) n
    has n (inl (q, es, h, m)) = inl (q, es, (h.0, kept q _ h.1), m)
    has n (inr (j, c, p, h, m)) = elim (seen n j c h m) [ inl g ↦ inr (j, c, p, g, m) | inr g ↦ inl (record { machine = i; number = k }, d.files, (from_fit fit, named_it), g) ]

    day : (n : Digest) (q : DayName) (b : List ℕ) → (named w i d k).store.days q ≡ Some b → Has q b n → (w.store.days q ≡ Some b) ⊎ (is_in n (names_of d.files) ≡ true)
    day n q b h m = let t = has_then (record { machine = i; number = k }) d.files n fit in grind keep

    machine : (n : Digest) (j : ℕ) (c : Work) → put i None w.makes j ≡ Some c → w.makes j ≡ Some c
    machine n j c h = grind keep

    had : (n : Digest) → Had (named w i d k) n → Had w n
    had n (inl (q, es, h, m)) = elim (day n q (day_file q es) h.1 (file_has (named w i d k).store q es n h m)) [ inl g ↦ inl (q, es, (h.0, g), m) | inr g ↦ inr (i, d, o, e, g) ]
    had n (inr (j, c, p, h, m)) = inr (j, c, p, machine n j c h, m)

-- days stay
still_there : {v w : World} → Way v w → (d : DayName) → IsSome (v.store.days d) → IsSome (w.store.days d)
still_there {v} {w} a d h = go (v.store.days d) refl
  where
    go : (o : Option (List ℕ)) → v.store.days d ≡ o → IsSome (w.store.days d)
    go (Some b) e = rw (a.days d b e)
    go None e = absurd cc

-- what a machine finished stays so
still_finished : {v w : World} (i k : ℕ) → Way v w → HasFinished v.store i k → HasFinished w.store i k
still_finished i k a (n, l, m, h) = (n, l, omega (arith, a.highest i), still_there a _ h)

-- where no day is at the end of a way, there was none
was_none : {v w : World} → Way v w → (d : DayName) → w.store.days d ≡ None → v.store.days d ≡ None
was_none {v} {w} a d h = go (v.store.days d) refl
  where
    go : (o : Option (List ℕ)) → v.store.days d ≡ o → v.store.days d ≡ None
    go None e = e
    go (Some b) e = let f = a.days d b e in absurd cc

-- a machine finished the day that it made, if it made one, and that day is new
abbrev pub Finishes : ℕ → World → World → Type 0
Finishes i v w = (x : Work) → v.makes i ≡ Some x → (k : ℕ) × (v.store.days (record { machine = i; number = k }) ≡ None) × (w.store.days (record { machine = i; number = k }) ≡ Some (day_file (record { machine = i; number = k }) x.files))

-- a machine had its turn: it finished the day that it made, if it made one, and a day above its highest number
pub record Turned (i : ℕ) (v w : World) : Type 0 where
  pub idle : w.makes i ≡ None
  pub high : w.store.highest i ≤ v.store.highest i + 1
  pub done : Finishes i v w
  pub new : HasFinished w.store i (v.store.highest i)

-- it did so before a way that left it alone
turned_on : {u v w : World} (i : ℕ) → Turned i u v → Way v w → w.makes i ≡ v.makes i → w.store.highest i ≡ v.store.highest i → Turned i u w
turned_on i t a e f =
    record {
      idle = e ∙ t.idle;
      high = omega (arith, t.high);
      done = λ x g. let (k, n, h) = t.done x g in (k, n, a.days _ _ h);
      new = still_finished i _ a t.new;
    }

-- or after it
turned_from : {u v w : World} (i : ℕ) → Way u v → v.makes i ≡ u.makes i → v.store.highest i ≡ u.store.highest i → Turned i v w → Turned i u w
turned_from i a e f t = record { idle = t.idle; high = omega (arith, t.high); done = λ x g. let (k, n, h) = t.done x (e ∙ g) in (k, was_none a _ n, h); new = rw f at t.new }

-- what machines leave as it is when they finish days
pub record Still (v w : World) : Type 0 where
  pub sweeper : w.sweeper ≡ v.sweeper
  pub place : (n : Digest) → w.store.place n ≡ v.store.place n

-- one after the other
still_on : {u v w : World} → Still u v → Still v w → Still u w
still_on a b = record { sweeper = b.sweeper ∙ a.sweeper; place = λ n. b.place n ∙ a.place n }

-- a machine had its turn, and no other had
record Part (i : ℕ) (v w : World) : Type 0 where
  way : Way v w
  turned : Turned i v w
  others : (j : ℕ) → (j ≡ i → ⊥) → (w.makes j ≡ v.makes j) × (w.store.highest j ≡ v.store.highest j)
  still : Still v w

-- it had so after a step of its own that raised nothing
part_from : {u v w : World} (i : ℕ) → Way u v → ((j : ℕ) → (j ≡ i → ⊥) → v.makes j ≡ u.makes j) → ((j : ℕ) → v.store.highest j ≡ u.store.highest j) → Still u v → Finishes i u w → Part i v w → Part i u w
part_from i a makes highest same done p =
    record {
      way = on a p.way;
      turned = record { idle = p.turned.idle; high = omega (arith, highest i, p.turned.high); done = done; new = rw (highest i) at p.turned.new };
      others = λ j h. let z = p.others j h in (z.0 ∙ makes j h, z.1 ∙ highest j);
      still = still_on same p.still;
    }

-- no day has the next number
next_is_free : {w : World} → Bounds w → (i : ℕ) → w.store.days (record { machine = i; number = w.store.highest i + 1 }) ≡ None
next_is_free {w} b i = go (w.store.days day) refl
  where
    day : DayName
    day = record { machine = i; number = w.store.highest i + 1 }

    go : (o : Option (List ℕ)) → w.store.days day ≡ o → w.store.days day ≡ None
    go None e = e
    go (Some c) e = let f = b.days day c e in absurd (omega (arith, f.last))

module _ (w : World) (i : ℕ) (b : Bounds w) (o : w.store.machines i ≡ true) (l : w.store.highest i < last_number) where
  -- it makes a day whose number is not raised
  unraised : (d : Work) → w.makes i ≡ Some d → d.number ≡ None → (v : World) × Part i w v
  unraised d e f = (
    v,
    record {
      way = on (raises w i d o e f l) (names u i x k (b.files i d e) o (grind keep) refl (next_is_free b i));
      turned = record { idle = grind keep; high = grind keep; done = λ c g. done c g; new = (k, omega arith, grind keep, grind keep) };
      others = λ j h. (grind keep, grind keep);
      still = record { sweeper = refl; place = λ n. refl };
    },
  )
    where
      k : ℕ
      k = w.store.highest i + 1

      x : Work
      x = with_number k d

      u : World
      u = raised w i d

      v : World
      v = named u i x k

      done : Finishes i w v
      done c g = (k, next_is_free b i, grind keep)

module _ (w : World) (i : ℕ) (b : Bounds w) (o : w.store.machines i ≡ true) (l : w.store.highest i < last_number) where
  -- it makes none
  makes_none : w.makes i ≡ None → (v : World) × Part i w v
  makes_none e =
      let (v, p) = unraised (begun w i) i (bounds_run (begins w i o e).run b) o l new_day (grind keep) refl in
      (v, part_from i (begins w i o e) (λ j h. grind keep) (λ j. refl) (record { sweeper = refl; place = λ n. refl }) (λ x g. absurd cc) p)

module _ (w : World) (i : ℕ) (b : Bounds w) (o : w.store.machines i ≡ true) (l : w.store.highest i < last_number) where
  -- it makes one whose number is raised: it finishes that, and then one of no pieces
  has_raised : (d : Work) (k : ℕ) → w.makes i ≡ Some d → d.number ≡ Some k → (v : World) × Part i w v
  has_raised d k e f =
      let (v, p) = makes_none u i (bounds_run a.run b) o l (grind keep) in
      (v, part_from i a (λ j h. grind keep) (λ j. refl) (record { sweeper = refl; place = λ n. refl }) (λ x g. (k, none, p.way.days _ _ (day x g))) p)
    where
      u : World
      u = named w i d k

      none : w.store.days (record { machine = i; number = k }) ≡ None
      none = let n : NumberIs w.store i d.number = (rw e at (b.numbered i)).1 in (rw f at n).2

      a : Way w u
      a = names w i d k (b.files i d e) o e f none

      day : (x : Work) → w.makes i ≡ Some x → u.store.days (record { machine = i; number = k }) ≡ Some (day_file (record { machine = i; number = k }) x.files)
      day x g = grind keep

  -- whatever it makes
  takes_turn : (v : World) × Part i w v
  takes_turn = make (w.makes i) refl
    where
      number : (d : Work) → w.makes i ≡ Some d → (k : Option ℕ) → d.number ≡ k → (v : World) × Part i w v
      number d e None f = unraised w i b o l d e f
      number d e (Some k) f = has_raised d k e f

      make : (m : Option Work) → w.makes i ≡ m → (v : World) × Part i w v
      make None e = makes_none w i b o l e
      make (Some d) e = number d e d.number refl

-- each machine on the list below k had its turn, and no other had
record TookBelow (k : ℕ) (v w : World) : Type 0 where
  way : Way v w
  took : (i : ℕ) → i < k → v.store.machines i ≡ true → Turned i v w
  others : (i : ℕ) → k ≤ i → (w.makes i ≡ v.makes i) × (w.store.highest i ≡ v.store.highest i)
  still : Still v w

-- two numbers are the same or not
either : (i k : ℕ) → (i ≡ k) ⊎ (i ≡ k → ⊥)
either i k = grind keep

-- the next one has its turn, if it is on the list
next_takes : (k : ℕ) {v w : World} → Bounds v → HaveNumbers 1 v.store → TookBelow k v w → (x : World) × TookBelow (suc k) v x
next_takes k {v} {w} b r s = go (v.store.machines k) refl
  where
    with_it : v.store.machines k ≡ true → (x : World) × Part k w x → (x : World) × TookBelow (suc k) v x
    with_it o (x, p) =
        let a = s.others k (omega arith) in (
          x,
          record {
            way = on s.way p.way;
            took = λ i l m.
                ⊎_elim (λ (e : i ≡ k). rw e (turned_from k s.way a.0 a.1 p.turned)) (λ (e : i ≡ k → ⊥). let z = p.others i e in turned_on i (s.took i (omega arith) m) p.way z.0 z.1) (either i k);
            others = λ i l. let z = p.others i (λ e. omega arith) in let y = s.others i (omega arith) in (z.0 ∙ y.0, z.1 ∙ y.1);
            still = still_on s.still p.still;
          },
        )

    go : (o : Bool) → v.store.machines k ≡ o → (x : World) × TookBelow (suc k) v x
    go true o = with_it o (takes_turn w k (bounds_run s.way.run b) (s.way.on_list k ∙ o) (let l = r k o in let e = (s.others k (omega arith)).1 in omega arith))
    go false o = (w, record { way = s.way; took = λ i l m. ⊎_elim (λ (e : i ≡ k). absurd (off i e m)) (λ (e : i ≡ k → ⊥). s.took i (omega arith) m) (either i k); others = λ i l. s.others i (omega arith); still = s.still })
      where
        off : (i : ℕ) → i ≡ k → v.store.machines i ≡ true → ⊥
        off i e m = let h : v.store.machines k ≡ true = rw e at m in cc

-- one after the other
some_take : (k : ℕ) {v : World} → Bounds v → HaveNumbers 1 v.store → (w : World) × TookBelow k v w
some_take zero {v} b r = (v, record { way = nowhere v; took = λ i l m. absurd (omega arith); others = λ i l. (refl, refl); still = record { sweeper = refl; place = λ n. refl } })
some_take (suc k) b r = next_takes k b r (some_take k b r).1

-- each machine on the list had its turn
pub record AllTook (v w : World) : Type 0 where
  pub way : Way v w
  pub took : (i : ℕ) → v.store.machines i ≡ true → Turned i v w
  pub still : Still v w

-- all of them
pub all_take : {v : World} → Bounds v → HaveNumbers 1 v.store → (w : World) × AllTook v w
all_take b r = let (w, s) = some_take most_machines b r in (w, record { way = s.way; took = λ i o. s.took i (b.on_list i o) o; still = s.still })
