-- What comes of lines that are played: every world that they lead to, and that they can be played.
-- Assumes nothing.
use Rattle.std.proofs.Common.{◌≡◌, ℕ, zero, suc, ◌+◌, ◌<◌, ◌≤◌, arith, Bool, true, false, not, ◌&&◌, List, [], ◌∷◌, ◌++◌, length, Some, None, Option, is_some, is_none, IsSome, nat_lt, refl, sym, subst, ap}
use Rattle.std.proofs.lemmas.Bool.Decides.{nat_tests}
use Rattle.std.specs.Option.{unwrap_or}
use Rattle.store.proofs.Equality.{names_decide}
use Rattle.digest.specs.declared.value.Digest.{Digest}
use Rattle.digest.specs.Digests.{digest_of}
use Rattle.store.specs.declared.sweep.Noted.{Noted}
use Rattle.store.specs.declared.sweep.Sweep.TheVariants as kept
use Rattle.store.specs.Effects.{put_aside, put_back, with_aside, with_day, with_highest, with_listing, with_own, with_place, with_sweep, without_machine}
use Rattle.store.specs.State.{State, empty, last_number, most_in_piece, most_machines, most_names, same_name}
use Rattle.dayfile.specs.Form.{day_file}
use Rattle.dayfile.specs.Limits.{AreFiles}
use Rattle.days.specs.Machines.{Work, forgetting, new_day, with_file, with_number, with_piece}
use Rattle.days.specs.System as machines
use Rattle.days.specs.System.{put}
use Rattle.sweeper.specs.Pieces.{HasFinished}
use Rattle.sweeper.specs.Sweepers.{Sweeping, all_aside, ends, is_resting, noted_of, puts, rests, up, waits}
use Rattle.sweeper.specs.System as sweeping
use Rattle.sweeper.specs.System.{Decided, Looked}
use Rattle.promise.specs.Cases.{Follows, Goes, Holds, Line, Part, Shows, plays, shows, add, aside, away, back, begin, break, decide, find, first, forget, go, line_of, lines, list, list_own, look, name, note, over, part, played, raise, refuses, rest, stop, write}
use Rattle.promise.specs.System.{Step, World, by_machine, by_sweeper, parts, start}

-- the day that machine i makes, if it makes one; and its number, if it has one
abbrev pub work : World → ℕ → Work
work w i = unwrap_or (w.makes i) new_day

abbrev pub number : World → ℕ → ℕ
number w i = unwrap_or (work w i).number 0

-- a world with this in the store, and with machine i making this; and with the sweeper doing this
abbrev pub machine : World → State → ℕ → Option Work → World
machine w s i x = record { store = s; makes = put i x w.makes; sweeper = w.sweeper }

abbrev pub sweeper : World → State → Sweeping → World
sweeper w s x = record { store = s; makes = w.makes; sweeper = x }

-- what is left after one is put aside; put back; thrown away
abbrev pub one_less : Sweeping → Sweeping
one_less (puts (n ∷ left)) = puts left
one_less (ends (n ∷ left) others) = ends left others
one_less (ends [] (n ∷ left)) = ends [] left
one_less other = other

-- where a line leads that leads to one world only
abbrev pub next : Line → World → World
next (begin i) w = machine w w.store i (Some new_day)
next (find i p) w = machine w w.store i (Some (with_piece (digest_of p) (work w i)))
next (list i n) w = machine w (with_listing (record { machine = i; name = n }) w.store) i (Some (work w i))
next (write i p) w = machine w (with_place (digest_of p) (Some p) w.store) i (Some (with_piece (digest_of p) (work w i)))
next (add i e) w = machine w w.store i (Some (with_file e (work w i)))
next (forget i) w = machine w w.store i (Some (forgetting (work w i)))
next (raise i) w = machine w (with_highest i (w.store.highest i + 1) w.store) i (Some (with_number (w.store.highest i + 1) (work w i)))
next (name i) w = machine w (with_day (record { machine = i; number = number w i }) (Some (day_file (record { machine = i; number = number w i }) (work w i).files)) w.store) i None
next (break i) w = machine w w.store i None
next (part i) w = record w { store = without_machine i w.store }
next (go day) w = record w { store = with_day day None w.store }
next (list_own n) w = sweeper w (with_own n w.store) w.sweeper
next (aside n) w = sweeper w (put_aside n (w.store.place n) w.store).1 (one_less w.sweeper)
next (back n) w = sweeper w (put_back n (w.store.aside n) w.store).1 (one_less w.sweeper)
next (away n) w = sweeper w (with_aside n None w.store) (one_less w.sweeper)
next rest w = sweeper w (with_sweep kept.Rests w.store) rests
next stop w = sweeper w w.store (up w.store.sweep)
next other w = w

-- and several, one after the other
abbrev pub after : List Line → World → World
after [] w = w
after (l ∷ ls) w = after ls (next l w)

-- if the sweeper waits, every machine on the list has finished a day since
abbrev pub MayDecide : World → Type 0
MayDecide w = (h : Noted) → w.sweeper ≡ waits h → (i : ℕ) → i < most_machines → w.store.machines i ≡ true → HasFinished w.store i (noted_of h i)

-- what it noted is one thing
now : (w : sweeping.World) (g h : Noted) → w.sweeper ≡ waits g → w.sweeper ≡ waits h → g ≡ h
now w g h e f = cc

-- P must hold of every world that a line leads to
abbrev pub Must : Line → (World → Type 0) → World → Type 0
Must look P w = (left : List Digest) → Looked w.store left → P (sweeper w w.store (puts left))
Must note P w = (h : Noted) → ((i : ℕ) → i < most_machines → noted_of h i ≡ w.store.highest i) → P (sweeper w (with_sweep (kept.Waits h) w.store) (waits h))
Must decide P w = MayDecide w → (back away : List Digest) → Decided w.store back away → P (sweeper w (with_sweep kept.Ends w.store) (ends back away))
Must (find i p) P w = w.store.place (digest_of p) ≡ Some p → P (next (find i p) w)
Must other P w = P (next other w)

-- then it does
pub must : (P : World → Type 0) {v w : World} (k : Step v w) → Must (line_of k) P v → P w
must P (by_machine x (machines.begins w i o e)) h = h
must P (by_machine x (machines.finds w i d p m l e)) h = rw m.makes at (h e)
must P (by_machine x (machines.lists w i d n m o l)) h = rw m.makes at h
must P (by_machine x (machines.writes w i d p m l o)) h = rw m.makes at h
must P (by_machine x (machines.adds w i d e m s f)) h = rw m.makes at h
must P (by_machine x (machines.forgets w i d m)) h = rw m.makes at h
must P (by_machine x (machines.raises w i d m l)) h = rw m.makes at h
must P (by_machine x (machines.names w i d k o e n f)) h = rw n at (rw e at h)
must P (by_machine x (machines.breaks w i)) h = h
must P (by_machine x (machines.lets_go w day e)) h = h
must P (by_sweeper m (sweeping.looks w left e l)) h = h left l
must P (by_sweeper m (sweeping.lists w n left e o l)) h = h
must P (by_sweeper m (sweeping.puts_aside w n left e o)) h = rw e at h
must P (by_sweeper m (sweeping.notes w g e f)) h = h g f
must P (by_sweeper m (sweeping.decides w g l o e f d)) h = h (λ i q. rw (now w g i e q) at f) l o d
must P (by_sweeper m (sweeping.decides_anew w l o e d)) h = h (λ i q. absurd cc) l o d
must P (by_sweeper m (sweeping.puts_back w n l o e)) h = rw e at h
must P (by_sweeper m (sweeping.throws w n l e)) h = rw e at h
must P (by_sweeper m (sweeping.rests_again w e)) h = h
must P (by_sweeper m (sweeping.stops w)) h = h
must P (parts w i o) h = h

-- of every world that lines lead to
abbrev pub Leads : List Line → (World → Type 0) → World → Type 0
Leads [] P w = P w
Leads (l ∷ ls) P w = Must l (Leads ls P) w

pub leads : (P : World → Type 0) {ls : List Line} {v w : World} → Follows ls v w → Leads ls P v → P w
leads P over h = h
leads P (first {ls = ls} k f) h = leads P f (must (Leads ls P) k h)

-- whether a machine makes a day whose number is not raised; whether this is the next that is put aside; put back; thrown away; whether none is left
abbrev pub makes_one : World → ℕ → Bool
makes_one w i = w.store.machines i && (is_some (w.makes i) && is_none (work w i).number)

abbrev pub is_next_aside : Digest → Sweeping → Bool
is_next_aside n (puts (q ∷ left)) = same_name n q
is_next_aside n other = false

abbrev pub is_next_back : Digest → Sweeping → Bool
is_next_back n (ends (q ∷ left) others) = same_name n q
is_next_back n other = false

abbrev pub is_next_away : Digest → Sweeping → Bool
is_next_away n (ends [] (q ∷ left)) = same_name n q
is_next_away n other = false

abbrev pub is_over : Sweeping → Bool
is_over (ends [] []) = true
is_over other = false

-- whether there is a step for a line that leads to one world only; but for what a machine needs besides to see to a piece, or to add a file
abbrev pub may : Line → World → Bool
may (begin i) w = w.store.machines i && is_none (w.makes i)
may (find i p) w = makes_one w i
may (list i n) w = makes_one w i && (not (w.store.listed (record { machine = i; name = n })) && nat_lt w.store.names most_names)
may (write i p) w = makes_one w i && w.store.listed (record { machine = i; name = digest_of p })
may (add i e) w = makes_one w i
may (forget i) w = makes_one w i
may (raise i) w = makes_one w i && nat_lt (w.store.highest i) last_number
may (name i) w = w.store.machines i && (is_some (w.makes i) && (is_some (work w i).number && is_none (w.store.days (record { machine = i; number = number w i }))))
may (break i) w = true
may (part i) w = w.store.machines i
may (go day) w = is_some (w.store.days day)
may (list_own n) w = is_next_aside n w.sweeper && (not (w.store.own n) && nat_lt w.store.names most_names)
may (aside n) w = is_next_aside n w.sweeper && w.store.own n
may (back n) w = is_next_back n w.sweeper
may (away n) w = is_next_away n w.sweeper
may rest w = is_over w.sweeper
may stop w = true
may other w = false

abbrev pub Needs : Line → World → Type 0
Needs (find i p) w = (length p ≤ most_in_piece) × (w.store.place (digest_of p) ≡ Some p)
Needs (write i p) w = length p ≤ most_in_piece
Needs (add i e) w = (e.pieces ≡ (work w i).seen) × AreFiles ((work w i).files ++ e ∷ [])
Needs other w = Unit {0}

-- there is a step
abbrev Can : Line → World → World → Type 0
Can l v w = (k : Step v w) × (line_of k ≡ l)

-- what the tests say
split : (a b : Bool) → (a && b) ≡ true → (a ≡ true) × (b ≡ true)
split true b e = (refl, e)
split false b e = absurd cc

unfit : (b : Bool) → not b ≡ true → b ≡ false
unfit false e = refl
unfit true e = absurd cc

none : {A : Type 0} (o : Option A) → is_none o ≡ true → o ≡ None
none None e = refl
none (Some x) e = absurd cc

some : {A : Type 0} (o : Option A) (d : A) → is_some o ≡ true → o ≡ Some (unwrap_or o d)
some (Some x) d e = refl
some None d e = absurd cc

makes_it : (w : World) (i : ℕ) → makes_one w i ≡ true → machines.Makes (record { store = w.store; makes = w.makes }) i (work w i)
makes_it w i e = let (o, f) = split _ _ e in let (m, n) = split _ _ f in record { on_list = o; makes = some (w.makes i) new_day m; no_number = none (work w i).number n }

below : (a b : ℕ) → nat_lt a b ≡ true → a < b
below a b e = grind (arith, nat_tests)

there : {A : Type 0} (o : Option A) → is_some o ≡ true → IsSome o
there (Some x) e = refl
there None e = absurd cc

-- what the sweeper does, by those tests
first_aside : (n : Digest) (x : Sweeping) → is_next_aside n x ≡ true → (left : List Digest) × (x ≡ puts (n ∷ left))
first_aside n (puts (q ∷ left)) e = (left, rw ((names_decide n q).0 e))
first_aside n other e = absurd cc

first_back : (n : Digest) (x : Sweeping) → is_next_back n x ≡ true → (left : List Digest) × (others : List Digest) × (x ≡ ends (n ∷ left) others)
first_back n (ends (q ∷ left) others) e = (left, others, rw ((names_decide n q).0 e))
first_back n other e = absurd cc

first_away : (n : Digest) (x : Sweeping) → is_next_away n x ≡ true → (left : List Digest) × (x ≡ ends [] (n ∷ left))
first_away n (ends [] (q ∷ left)) e = (left, rw ((names_decide n q).0 e))
first_away n other e = absurd cc

nothing_left : (x : Sweeping) → is_over x ≡ true → x ≡ ends [] []
nothing_left (ends [] []) e = refl
nothing_left other e = absurd cc

resting : (x : Sweeping) → is_resting x ≡ true → x ≡ rests
resting rests e = refl
resting other e = absurd cc

none_left : (x : Sweeping) → all_aside x ≡ true → x ≡ puts []
none_left (puts []) e = refl
none_left other e = absurd cc

-- a world without what the sweeper does, and without what machines make
abbrev alone : World → machines.World
alone w = record { store = w.store; makes = w.makes }

abbrev plain : World → sweeping.World
plain w = record { store = w.store; sweeper = w.sweeper }

-- where a step of the sweeper leads that takes the next one
led : (l : Line) (w : World) {s : State} {x : Sweeping} → w.sweeper ≡ x → Can l w (sweeper w s (one_less x)) → Can l w (sweeper w s (one_less w.sweeper))
led l w {s} e c = subst (λ z. Can l w (sweeper w s (one_less z))) (sym e) c

-- such a step can be taken
can : (l : Line) (w : World) → may l w ≡ true → Needs l w → Can l w (next l w)
can (begin i) w e h = let (o, m) = split _ _ e in (by_machine w.sweeper (machines.begins (alone w) i o (none (w.makes i) m)), refl)
can (find i p) w e h = (by_machine w.sweeper (machines.finds (alone w) i (work w i) p (makes_it w i e) h.0 h.1), refl)
can (list i n) w e h = let (m, f) = split _ _ e in let (l, g) = split _ _ f in (by_machine w.sweeper (machines.lists (alone w) i (work w i) n (makes_it w i m) (unfit _ l) (below _ _ g)), refl)
can (write i p) w e h = let (m, l) = split _ _ e in (by_machine w.sweeper (machines.writes (alone w) i (work w i) p (makes_it w i m) h l), refl)
can (add i f) w e h = (by_machine w.sweeper (machines.adds (alone w) i (work w i) f (makes_it w i e) h.0 h.1), refl)
can (forget i) w e h = (by_machine w.sweeper (machines.forgets (alone w) i (work w i) (makes_it w i e)), refl)
can (raise i) w e h = let (m, l) = split _ _ e in (by_machine w.sweeper (machines.raises (alone w) i (work w i) (makes_it w i m) (below _ _ l)), refl)
can (name i) w e h =
    let (o, f) = split _ _ e in
    let (m, g) = split _ _ f in
    let (k, d) = split _ _ g in
    (by_machine w.sweeper (machines.names (alone w) i (work w i) (number w i) o (some (w.makes i) new_day m) (some (work w i).number 0 k) (none _ d)), refl)
can (break i) w e h = (by_machine w.sweeper (machines.breaks (alone w) i), refl)
can (part i) w e h = (parts w i e, refl)
can (go day) w e h = (by_machine w.sweeper (machines.lets_go (alone w) day (there _ e)), refl)
can (list_own n) w e h =
    let (f, g) = split _ _ e in
    let (o, l) = split _ _ g in
    let (left, x) = first_aside n w.sweeper f in
    (by_sweeper w.makes (sweeping.lists (plain w) n left x (unfit _ o) (below _ _ l)), refl)
can (aside n) w e h =
    let (f, o) = split _ _ e in
    let (left, x) = first_aside n w.sweeper f in
    led (aside n) w x (by_sweeper w.makes (sweeping.puts_aside (plain w) n left x o), refl)
can (back n) w e h = let (left, others, x) = first_back n w.sweeper e in led (back n) w x (by_sweeper w.makes (sweeping.puts_back (plain w) n left others x), refl)
can (away n) w e h = let (left, x) = first_away n w.sweeper e in led (away n) w x (by_sweeper w.makes (sweeping.throws (plain w) n left x), refl)
can rest w e h = (by_sweeper w.makes (sweeping.rests_again (plain w) (nothing_left w.sweeper e)), refl)
can stop w e h = (by_sweeper w.makes (sweeping.stops (plain w)), refl)
can look w e h = absurd cc
can note w e h = absurd cc
can decide w e h = absurd cc

-- what is noted where no other machine than 0 and 1 has a highest number above 0
abbrev pub noted : State → Noted
noted s = record { highest = s.highest 0 ∷ s.highest 1 ∷ [] }

is_noted : (s : State) → ((i : ℕ) → s.highest (suc (suc i)) ≡ 0) → (i : ℕ) → noted_of (noted s) i ≡ s.highest i
is_noted s h zero = refl
is_noted s h (suc zero) = refl
is_noted s h (suc (suc i)) = sym (h i)

-- whether the sweeper waits, and machines 0 and 1 each have a day of their highest number, and that is above the noted one
abbrev pub has_finished : State → Noted → ℕ → Bool
has_finished s h i = nat_lt (noted_of h i) (s.highest i) && is_some (s.days (record { machine = i; number = s.highest i }))

abbrev pub both_finished : State → Sweeping → Bool
both_finished s (waits h) = has_finished s h 0 && has_finished s h 1
both_finished s other = false

waiting : (s : State) (x : Sweeping) → both_finished s x ≡ true → (h : Noted) × (x ≡ waits h) × ((has_finished s h 0 && has_finished s h 1) ≡ true)
waiting s (waits h) e = (h, refl, e)
waiting s other e = absurd cc

-- then all machines on the list have finished a day, where those are 0 and 1
finished : (s : State) (h : Noted) (i : ℕ) → has_finished s h i ≡ true → HasFinished s i (noted_of h i)
finished s h i e = let (l, d) = split _ _ e in (s.highest i, below _ _ l, omega arith, there _ d)

all_finished : (s : State) (h : Noted) → s.machines ≡ (empty (0 ∷ 1 ∷ [])).machines → (has_finished s h 0 && has_finished s h 1) ≡ true → (i : ℕ) → s.machines i ≡ true → HasFinished s i (noted_of h i)
all_finished s h m e zero o = finished s h 0 (split _ _ e).0
all_finished s h m e (suc zero) o = finished s h 1 (split _ _ e).1
all_finished s h m e (suc (suc i)) o = absurd (let l : (empty (0 ∷ 1 ∷ [])).machines (suc (suc i)) ≡ true = rw (ap (λ f. f (suc (suc i))) m) at o in grind (arith, nat_tests))

-- Lines can be played, where b says whether it was so before: what the sweeper finds is to be given, and what a machine needs to see to a piece or to add a file; the rest is tested.
abbrev pub Playable : Bool → List Line → World → Type 0
Playable b [] w = b ≡ true
Playable b (look ∷ ls) w = ((b && is_resting w.sweeper) ≡ true) × (left : List Digest) × Looked w.store left × Playable true ls (sweeper w w.store (puts left))
Playable b (note ∷ ls) w =
    ((b && all_aside w.sweeper) ≡ true) × ((i : ℕ) → w.store.highest (suc (suc i)) ≡ 0) × Playable true ls (sweeper w (with_sweep (kept.Waits (noted w.store)) w.store) (waits (noted w.store)))
Playable b (decide ∷ ls) w =
    ((b && both_finished w.store w.sweeper) ≡ true) × (w.store.machines ≡ (empty (0 ∷ 1 ∷ [])).machines) × (back : List Digest) × (away : List Digest) × Decided w.store back away
    × Playable true ls (sweeper w (with_sweep kept.Ends w.store) (ends back away))
Playable b (find i p ∷ ls) w = (b ≡ true) × Needs (find i p) w × Playable (may (find i p) w) ls (next (find i p) w)
Playable b (write i p ∷ ls) w = (b ≡ true) × Needs (write i p) w × Playable (may (write i p) w) ls (next (write i p) w)
Playable b (add i e ∷ ls) w = (b ≡ true) × Needs (add i e) w × Playable (may (add i e) w) ls (next (add i e) w)
Playable b (l ∷ ls) w = Playable (b && may l w) ls (next l w)

abbrev Plays : Bool → List Line → World → Type 0
Plays b ls w = (b ≡ true) × ((v : World) × Follows ls w v)

-- a step, and what can be played from there
on : {v w : World} {ls : List Line} (l : Line) → Can l v w → Plays true ls w → Plays true (l ∷ ls) v
on {v} {ls = ls} l (k, e) (b, (u, f)) = (refl, (u, rw e at (first k f)))

-- with a line before them that leads to one world only
before : (b : Bool) (l : Line) (ls : List Line) (w : World) → Needs l w → Plays (b && may l w) ls (next l w) → Plays b (l ∷ ls) w
before b l ls w n (e, h) = let (c, m) = split _ _ e in (c, (on l (can l w m n) (refl, h)).1)

-- a test, and then what can be played
tested : {a : Bool} (b : Bool) {l : Line} {ls : List Line} {v w : World} → (b && a) ≡ true → (a ≡ true → Can l v w) → Plays true ls w → Plays b (l ∷ ls) v
tested b e c h = let (m, f) = split b _ e in (m, (on _ (c f) h).1)

-- so they can be played
playable : (b : Bool) (ls : List Line) (w : World) → Playable b ls w → Plays b ls w
playable b [] w h = (h, (w, over))
playable b (look ∷ ls) w (e, left, l, h) = tested b e (λ t. (by_sweeper w.makes (sweeping.looks (plain w) left (resting _ t) l), refl)) (playable true ls _ h)
playable b (note ∷ ls) w (e, z, h) = tested b e (λ t. (by_sweeper w.makes (sweeping.notes (plain w) (noted w.store) (none_left _ t) (λ i m. is_noted w.store z i)), refl)) (playable true ls _ h)
playable b (decide ∷ ls) w (e, m, l, r, d, h) =
    tested b e
    (λ t. let (g, x, f) = waiting w.store w.sweeper t in (by_sweeper w.makes (sweeping.decides (plain w) g l r x (λ i u o. all_finished w.store g m f i o) d), refl))
    (playable true ls _ h)
playable b (find i p ∷ ls) w (e, n, h) = let (m, f) = playable _ ls _ h in (e, (on (find i p) (can (find i p) w m n) (refl, f)).1)
playable b (write i p ∷ ls) w (e, n, h) = let (m, f) = playable _ ls _ h in (e, (on (write i p) (can (write i p) w m n) (refl, f)).1)
playable b (add i f ∷ ls) w (e, n, h) = let (m, g) = playable _ ls _ h in (e, (on (add i f) (can (add i f) w m n) (refl, g)).1)
playable b (l ∷ ls) w h = before b l ls w tt (playable _ ls _ h)

-- The sweeper waits for a machine that has finished no day since.
abbrev pub MustWait : World → Type 0
MustWait w = (h : Noted) × (w.sweeper ≡ waits h) × (i : ℕ) × (i < most_machines) × (w.store.machines i ≡ true) × (HasFinished w.store i (noted_of h i) → ⊥)

-- what is to be proved of the parts of a case
abbrev pub Checks : List Part → World → Type 0
Checks [] w = Unit {0}
Checks (plays ls ∷ others) w = Leads ls (Checks others) w
Checks (shows (refuses decide) ∷ others) w = MustWait w × Checks others w
Checks (shows (refuses l) ∷ others) w = Must l (λ v. ⊥) w × Checks others w
Checks (shows f ∷ others) w = Shows w f × Checks others w

-- then they show what they are to show
checks : (ps : List Part) (w : World) → Checks ps w → Goes ps w
checks [] w c = tt
checks (plays ls ∷ others) w c = λ v f. checks others v (leads (Checks others) f c)
checks (shows (refuses decide) ∷ others) w c = (λ v k e. must (λ v. ⊥) k (rw e (λ m back away d. let (h, s, i, l, o, f) = c.0 in f (m h s i l o))), checks others w c.1)
checks (shows (refuses l) ∷ others) w c = (λ v k e. must (λ v. ⊥) k (rw e c.0), checks others w c.1)
checks (shows f ∷ others) w c = (c.0, checks others w c.1)

-- so a case holds
pub holds : (ps : List Part) → Playable true (lines ps) (start (0 ∷ 1 ∷ [])) → Checks ps (start (0 ∷ 1 ∷ [])) → Holds (played ps)
holds ps p c = ((playable true (lines ps) _ p).1, checks ps _ c)
