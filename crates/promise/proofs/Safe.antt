-- Where pieces are: what every step keeps, given the bounds.
-- Assumes nothing.
use Rattle.std.proofs.Common.{◌≡◌, ◌⊎◌, ℕ, ◌<◌, true, List, [], Some, None, Option, IsSome, arith}
use Rattle.digest.specs.declared.value.Digest.{Digest}
use Rattle.digest.specs.Digests.{digest_of}
use Rattle.store.specs.declared.day.DayName.{DayName}
use Rattle.store.specs.State.{State, is_in}
use Rattle.dayfile.specs.Entries.{names_of}
use Rattle.days.specs.Machines.{Work, all_seen}
use Rattle.days.specs.System as machines
use Rattle.sweeper.specs.Sweepers.{Sweeping, anew, ends, noted_of, puts, rests, waits}
use Rattle.sweeper.specs.System as sweeping
use Rattle.sweeper.specs.System.{Decided}
use Rattle.promise.specs.Runs.{Reached, Run, onward, still}
use Rattle.promise.specs.System.{AreMachines, Step, World, beside_machines, beside_sweeper, by_machine, by_sweeper, parts, start}
use Rattle.promise.proofs.Bounds.{Bounds, bounds_run, bounds_start}
use Rattle.promise.proofs.Forms.{Has, found_has, has_then, in_both, seen_for_file, seen_for_files, seen_more}
use Rattle.promise.proofs.Names.{tests}

-- what was seen to for the day under way
abbrev pub seen : Option Work → List Digest
seen None = []
seen (Some x) = all_seen x

-- when all that machine i has seen to must be in its place: while the sweeper waits, once the machine has a day above its noted number; and from when it decides until it is done
abbrev pub Must : Sweeping → State → ℕ → Type 0
Must rests s i = ⊥
Must (puts left) s i = ⊥
Must (waits h) s i = (k : ℕ) × (noted_of h i < k) × IsSome (s.days (record { machine = i; number = k }))
Must (ends back away) s i = Unit {0}
Must anew s i = Unit {0}

-- a piece aside that is not thrown away
abbrev pub Spared : Sweeping → Digest → Type 0
Spared (ends back away) n = is_in n back ≡ true
Spared other n = Unit {0}

-- a piece aside that has its turn yet
abbrev pub Rest : Sweeping → Digest → Type 0
Rest (ends back away) n = (is_in n back ≡ true) ⊎ (is_in n away ≡ true)
Rest other n = Unit {0}

-- what machine i has seen to, if it is on the list
pub record Good (s : State) (x : Sweeping) (i : ℕ) (m : Option Work) : Type 0 where
  pub there : (n : Digest) → s.machines i ≡ true → is_in n (seen m) ≡ true → IsSome (s.place n) ⊎ IsSome (s.aside n)
  pub sure : Must x s i → (n : Digest) → s.machines i ≡ true → is_in n (seen m) ≡ true → IsSome (s.place n)

-- What machines have seen to is there, and in its place when it must be; what kept days have is in its place, or aside and spared; and the sweeper forgets nothing that is aside.
pub record Safe (w : World) : Type 0 where
  pub good : (i : ℕ) → Good w.store w.sweeper i (w.makes i)
  pub kept : (d : DayName) (b : List ℕ) (n : Digest) → w.store.days d ≡ Some b → Has d b n → IsSome (w.store.place n) ⊎ (IsSome (w.store.aside n) × Spared w.sweeper n)
  pub rest : (n : Digest) → IsSome (w.store.aside n) → Rest w.sweeper n

ruleset keep = (arith, tests)

-- what a kept day has and is aside is to go back
goes_back : (w : World) (back away : List Digest) → Bounds w → Decided w.store back away → (d : DayName) (f : List ℕ) (n : Digest) → w.store.days d ≡ Some f → Has d f n → IsSome (w.store.aside n) → is_in n back ≡ true
goes_back w back away b c d f n e h a =
    let has = found_has w.store d f n (b.days d f e) e h in
    grind keep

-- each step keeps all this
by_machines : (x : Sweeping) {v w : machines.World} → machines.Step v w → Bounds (beside_sweeper v x) → Safe (beside_sweeper v x) → Safe (beside_sweeper w x)
by_machines x (machines.begins w i o e) b s = grind keep
by_machines x (machines.finds w i d p m l e) b s = let c = λ (n : Digest). seen_more n (digest_of p) (names_of d.files) d.seen in grind keep
by_machines x (machines.lists w i d n m o l) b s = grind keep
by_machines x (machines.writes w i d p m l o) b s = let c = λ (n : Digest). seen_more n (digest_of p) (names_of d.files) d.seen in grind keep
by_machines x (machines.adds w i d e m s f) b z = let c = λ (n : Digest). seen_for_file n d e s in grind keep
by_machines x (machines.forgets w i d m) b s = let c = λ (n : Digest). seen_for_files n (names_of d.files) d.seen in let k = λ (n : Digest). in_both n (names_of d.files) [] in grind keep
by_machines x (machines.raises w i d m l) b s = grind keep
by_machines x (machines.names w i d k o e n f) b s =
    let h = λ (q : Digest). has_then (record { machine = i; number = k }) d.files q (b.files i d e) in
    let c = λ (q : Digest). seen_for_files q (names_of d.files) d.seen in
    grind keep
by_machines x (machines.breaks w i) b s = grind keep
by_machines x (machines.lets_go w day e) b s = grind keep

by_sweepers : (m : ℕ → Option Work) {v w : sweeping.World} → sweeping.Step v w → Bounds (beside_machines v m) → Safe (beside_machines v m) → Safe (beside_machines w m)
by_sweepers m (sweeping.looks w left e l) b s = grind keep
by_sweepers m (sweeping.lists w n left e o l) b s = grind keep
by_sweepers m (sweeping.puts_aside w n left e o) b s = grind keep
by_sweepers m (sweeping.notes w h e f) b s = grind keep
by_sweepers m (sweeping.decides w h back away e f d) b s = let g = goes_back _ back away b d in grind keep
by_sweepers m (sweeping.decides_anew w back away e d) b s = let g = goes_back _ back away b d in grind keep
by_sweepers m (sweeping.puts_back w n back away e) b s = grind keep
by_sweepers m (sweeping.throws w n away e) b s = grind keep
by_sweepers m (sweeping.rests_again w e) b s = grind keep
by_sweepers m (sweeping.stops w) b s = grind keep

pub safe_step : {v w : World} → Step v w → Bounds v → Safe v → Safe w
safe_step (by_machine x k) b s = by_machines x k b s
safe_step (by_sweeper m k) b s = by_sweepers m k b s
safe_step (parts w i o) b s = grind keep

-- and so does a run
pub safe_run : {v w : World} → Run v w → Bounds v → Safe v → Safe w
safe_run still b s = s
safe_run (onward r k) b s = safe_step k (bounds_run r b) (safe_run r b s)

-- at the beginning
pub safe_start : (ms : List ℕ) → Safe (start ms)
safe_start ms = grind keep

-- and so always
pub safe : (ms : List ℕ) {w : World} → AreMachines ms → Reached ms w → Safe w
safe ms a r = safe_run r (bounds_start ms a) (safe_start ms)
