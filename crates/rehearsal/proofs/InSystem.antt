-- What a line of a script does are steps of the system, where it damages nothing.
-- Assumes nothing.
use Rattle.std.proofs.Common.{◌≡◌, ◌≢◌, inl, inr, ℕ, List, Some, None, Ok, Err, Option, Result, ap, subst, sym, refl, arith, Bool, true, false, nat_eq, ◌+◌, take}
use Rattle.std.proofs.lemmas.Grind.{common_steps}
use Rattle.cutting.specs.declared.refusal.Refusal.{Refusal}
use Rattle.store.specs.Damages.{flipped}
use Rattle.store.specs.Memories.{state_of}
use Rattle.store.specs.Requests.{Kept, LetGo}
use Rattle.store.specs.declared.piece.Spot.{Spot}
use Rattle.digest.specs.declared.value.Digest.{Digest}
use Rattle.store.proofs.Exact.{gone, refused}
use Rattle.days.specs.declared.done.Done.{Done}
use Rattle.days.specs.Machines.{Work}
use Rattle.days.specs.System as machines
use Rattle.days.specs.System.{put}
use Rattle.days.proofs.Within.{are_steps}
use Rattle.sweeper.specs.declared.done.Done as swept
use Rattle.sweeper.specs.Sweepers.{Sweeping, sweeping}
use Rattle.sweeper.specs.System as sweep_system
use Rattle.sweeper.specs.Within as sweep
use Rattle.sweeper.proofs.Within as sweeps
use Rattle.promise.specs.Runs as runs
use Rattle.promise.specs.Runs.{Run}
use Rattle.promise.specs.System as system
use Rattle.promise.specs.System.{beside_machines, beside_sweeper, by_machine, by_sweeper, parts}
use Rattle.rehearsal.specs.declared.answer.Answer.{Answer}
use Rattle.rehearsal.specs.declared.answer.Answer.TheVariants as answer
use Rattle.rehearsal.specs.declared.step.Act.{Act}
use Rattle.rehearsal.specs.declared.step.Act.TheVariants as act
use Rattle.rehearsal.specs.declared.step.Move.{Move}
use Rattle.rehearsal.specs.declared.step.Move.TheVariants as move
use Rattle.rehearsal.specs.declared.step.Step.{Step}
use Rattle.rehearsal.specs.declared.step.Step.TheVariants as step
use Rattle.rehearsal.specs.declared.unplayed.Unplayed.{Unplayed}
use Rattle.rehearsal.specs.declared.unplayed.Unplayed.TheVariants as unplayed
use Rattle.rehearsal.specs.declared.world.World.{World}
use Rattle.rehearsal.specs.declared.line.LineFault.{LineFault}
use Rattle.rehearsal.specs.Acts.{Acts, memory_does}
use Rattle.rehearsal.specs.Answers.{Answers, LinePlayed, Plays}
use Rattle.rehearsal.specs.Systems.{RunsOrDamages, system_of}
use Rattle.rehearsal.specs.Worlds.{ActsIn, AtDay, DayHarmed, FlipsPiece, LetsGo, Parts, Stops, Sweeps, makes_at}
use Rattle.rehearsal.proofs.Same.{all_same, back_same, day_same, exact, make_same, reads_same, same_system, store_same}

-- steps of machines, and of the sweeper, beside the others
beside_a_sweeper : {n : ℕ} {v w : machines.World} (x : Sweeping) → machines.Within n v w → Run (beside_sweeper v x) (beside_sweeper w x)
beside_a_sweeper x machines.still = runs.Run.still
beside_a_sweeper x (machines.onward r k) = runs.Run.onward (beside_a_sweeper x r) (by_machine x k)

beside_the_machines : {n : ℕ} {v w : sweep_system.World} (m : ℕ → Option Work) → sweep.Within n v w → Run (beside_machines v m) (beside_machines w m)
beside_the_machines m sweep.still = runs.Run.still
beside_the_machines m (sweep.onward r k) = runs.Run.onward (beside_the_machines m r) (by_sweeper m k)

-- the machines, and the sweeper, of a script's world
abbrev machines_of : World → machines.World
machines_of w = record { store = state_of w.store; makes = makes_at w }

-- nothing is done
same : (w v : World) → system_of v ≡ system_of w → Run (system_of w) (system_of v)
same w v e = subst (λ x. Run (system_of w) x) (sym e) runs.Run.still

-- the machines do something, and the sweeper does what it did
with_sweeper : {n : ℕ} (w v : World) → v.sweeper ≡ w.sweeper → machines.Within n (machines_of w) (machines_of v) → Run (system_of w) (system_of v)
with_sweeper w v e r =
    subst (λ x. Run (system_of w) (beside_sweeper (machines_of v) x)) (ap sweeping (sym e)) (beside_a_sweeper (sweeping w.sweeper) r)

-- what the machines make, where all but machine i make what they made
all_make : (w v : World) (i : ℕ) → ((j : ℕ) → j ≢ i → makes_at v j ≡ makes_at w j) → put i (makes_at v i) (makes_at w) ≡ makes_at v
all_make w v i others = λ k j. at j k
  where
    at : (j : ℕ) → put i (makes_at v i) (makes_at w) j ≡ makes_at v j
    at j = go (nat_eq j i) refl
      where
        go : (b : Bool) → nat_eq j i ≡ b → put i (makes_at v i) (makes_at w) j ≡ makes_at v j
        go true e = rw e (ap (makes_at v) (sym (grind (arith, common_steps, e))))
        go false e = rw e (sym (others j (grind (arith, common_steps, e))))

-- one of them does something, in at most n steps
one_does : {n : ℕ} (w v : World) (i : ℕ) → ((j : ℕ) → j ≢ i → makes_at v j ≡ makes_at w j) → v.sweeper ≡ w.sweeper →
    machines.Within n (machines_of w) (machines.world (state_of v.store) i (makes_at v i) (machines_of w)) → Run (system_of w) (system_of v)
one_does {n} w v i others e r =
    with_sweeper w v e
    (subst (λ (f : ℕ → Option Work). machines.Within n (machines_of w) (record { store = state_of v.store; makes = f })) (all_make w v i others) r)

acts : (a : Act) (w v : World) (i : ℕ) (r : Result Done Refusal) → ((j : ℕ) → j ≢ i → makes_at v j ≡ makes_at w j) → v.sweeper ≡ w.sweeper → Acts a i (makes_at w i) w.store r (makes_at v i) v.store → Run (system_of w) (system_of v)
acts act.Begin w v i r o e h = one_does w v i o e ((are_steps memory_does).begins state_of exact (machines_of w) i w.store v.store r (makes_at v i) refl h)
acts (act.See m) w v i r o e (inl h) = one_does w v i o e ((are_steps memory_does).sees _ state_of exact (machines_of w) i w.store v.store r (makes_at v i) refl h)
acts (act.See m) w v i r o e (inr (some, is, new, f)) = same w v (same_system w v (ap state_of f) (all_same w v i new o) (ap sweeping e))
acts (act.File path m) w v i r o e (inl h) = one_does w v i o e ((are_steps memory_does).adds _ _ state_of exact (machines_of w) i w.store v.store r (makes_at v i) refl h)
acts (act.File path m) w v i r o e (inr (some, is, new, f)) = same w v (same_system w v (ap state_of f) (all_same w v i new o) (ap sweeping e))
acts act.Raise w v i r o e h = one_does w v i o e ((are_steps memory_does).raises state_of exact (machines_of w) i w.store v.store r (makes_at v i) refl h)
acts act.Name w v i r o e h = one_does w v i o e ((are_steps memory_does).names state_of exact (machines_of w) i w.store v.store r (makes_at v i) refl h)
acts act.Break w v i r o e h = one_does w v i o e ((are_steps memory_does).breaks state_of exact (machines_of w) i w.store v.store r (makes_at v i) refl h)

in_world : (a : Act) (w v : World) (i : ℕ) (r : Result Done Refusal) → ActsIn a i w r v → Run (system_of w) (system_of v)
in_world a w v i r (inl (x, is, why, e)) = same w v (ap system_of e)
in_world a w v i r (inr (fits, inl (above, is, e))) = same w v (ap system_of e)
in_world a w v i r (inr (fits, inr (below, h, others, e))) = acts a w v i r others e h

-- a day is let go
goes : (w v : World) (i k : ℕ) (r : Result (Unit {0}) Refusal) → LetsGo i k w r v → Run (system_of w) (system_of v)
goes w v i k r (inr (above, is, e)) = same w v (ap system_of e)
goes w v i k (Ok x) (inl (below, h, (m, e))) =
    let is = gone (state_of w.store) (state_of v.store) (record { machine = i; number = k }) h in
    let f = make_same w v m in
    with_sweeper {n = 1} w v e
    (subst (λ (z : machines.World). machines.Within 1 (machines_of w) z) (λ j. record { store = is.1 j; makes = sym f j }) (machines.onward machines.still (machines.lets_go (machines_of w) (record { machine = i; number = k }) is.0)))
goes w v i k (Err e) (inl (below, h, o)) = same w v (store_same w v (refused (state_of w.store) (state_of v.store) (LetGo (record { machine = i; number = k })) e h) o)

-- a machine is gone for good
parts_run : (w v : World) (i : ℕ) (r : Result (Unit {0}) Refusal) → Parts i w r v → Run (system_of w) (system_of v)
parts_run w v i (Ok x) (on, is, (m, e)) =
    let f = make_same w v m in
    let g = ap sweeping e in
    subst (λ (z : system.World). Run (system_of w) z) (λ j. record { store = sym is j; makes = sym f j; sweeper = sym g j }) (runs.Run.onward runs.Run.still (parts (system_of w) i on))
parts_run w v i (Err e) h = same w v (ap system_of h.2)

-- the sweeper does something, and the machines make what they made
with_machines : {n : ℕ} (w v : World) → v.machines ≡ w.machines → sweep.Within n (record { store = state_of w.store; sweeper = sweeping w.sweeper }) (record { store = state_of v.store; sweeper = sweeping v.sweeper }) → Run (system_of w) (system_of v)
with_machines w v m r =
    subst (λ x. Run (system_of w) (beside_machines (record { store = state_of v.store; sweeper = sweeping v.sweeper }) x)) (sym (make_same w v m)) (beside_the_machines (makes_at w) r)

sweeps_run : (m : Move) (w v : World) (a : Result swept.Done Refusal) → Sweeps m w a v → Run (system_of w) (system_of v)
sweeps_run move.Look w v a (h, e) = with_machines w v e ((sweeps.are_steps memory_does).looks state_of exact (sweeping w.sweeper) (sweeping v.sweeper) w.store v.store a h)
sweeps_run move.Aside w v a (h, e) = with_machines w v e ((sweeps.are_steps memory_does).puts_aside state_of exact (sweeping w.sweeper) (sweeping v.sweeper) w.store v.store a h)
sweeps_run move.Note w v a (h, e) = with_machines w v e ((sweeps.are_steps memory_does).notes state_of exact (sweeping w.sweeper) (sweeping v.sweeper) w.store v.store a h)
sweeps_run move.Decide w v a (h, e) = with_machines w v e ((sweeps.are_steps memory_does).decides state_of exact (sweeping w.sweeper) (sweeping v.sweeper) w.store v.store a h)
sweeps_run move.Next w v a (h, e) = with_machines w v e ((sweeps.are_steps memory_does).nexts state_of exact (sweeping w.sweeper) (sweeping v.sweeper) w.store v.store a h)

-- the sweeper stops
stops_run : (w v : World) (r : Result (Unit {0}) Refusal) → Stops w r v → Run (system_of w) (system_of v)
stops_run w v (Ok x) (h, e) = with_machines w v e ((sweeps.are_steps memory_does).comes_up state_of exact (sweeping w.sweeper) w.store v.store v.sweeper h)
stops_run w v (Err r) (h, o) = same w v (store_same w v (refused (state_of w.store) (state_of v.store) Kept r h) o)

-- damage that is refused
pub flips_same : (spot : Spot) (at : ℕ) (n : Digest) (w v : World) (r : Refusal) → FlipsPiece spot at n w (Err r) v → system_of v ≡ system_of w
flips_same spot at n w v r (h, o) = store_same w v h.2 o

pub harms_same : (least : ℕ) (harm : List ℕ → List ℕ) (i k : ℕ) (w v : World) (r : Refusal) → AtDay (DayHarmed least harm) i k w (Err r) v → system_of v ≡ system_of w
harms_same least harm i k w v r h = day_same (DayHarmed least harm) i k w v (Err r) (λ d x. x.2) h

-- an answer that is given, and one that is refused
plays : (s : Step) (w v : World) (a : Answer) → Plays s w (Ok a) v → RunsOrDamages {E = LineFault} (Ok (Some a)) w v
plays (step.Digest m) w v (answer.Digest d) h = inr (same w v (ap system_of h.1))
plays (step.Cut m) w v (answer.Pieces d) h = inr (same w v (ap system_of h.1))
plays (step.Machine i a) w v (answer.Done d) h = inr (in_world a w v i (Ok d) h)
plays (step.LetGo i k) w v answer.LetGo h = inr (goes w v i k (Ok tt) h)
plays (step.Back i k path) w v (answer.File x) h = inr (same w v (back_same i k _ w v (Ok x) h))
plays (step.Bytes i k) w v (answer.File x) h = inr (same w v (reads_same i k w v (Ok x) h))
plays (step.FlipPiece spot at m) w v answer.Flipped h = inl refl
plays (step.FlipDay i k at) w v answer.Flipped h = inl refl
plays (step.CutDay i k n) w v answer.Cut h = inl refl
plays (step.Part i) w v answer.Parted h = inr (parts_run w v i (Ok tt) h)
plays (step.Sweeper m) w v (answer.Swept d) h = inr (sweeps_run m w v (Ok d) h)
plays step.Stop w v answer.Stopped h = inr (stops_run w v (Ok tt) h)
plays step.Show w v (answer.Shown d) h = inr (same w v (ap system_of h.1))
plays _ _ _ _ h = absurd h

plays_not : (s : Step) (w v : World) (r : Refusal) → Plays s w (Err r) v → Run (system_of w) (system_of v)
plays_not (step.Digest m) w v r h = absurd h
plays_not (step.Cut m) w v r h = same w v (ap system_of h.1)
plays_not (step.Machine i a) w v r h = in_world a w v i (Err r) h
plays_not (step.LetGo i k) w v r h = goes w v i k (Err r) h
plays_not (step.Back i k path) w v r h = same w v (back_same i k _ w v (Err r) h)
plays_not (step.Bytes i k) w v r h = same w v (reads_same i k w v (Err r) h)
plays_not (step.FlipPiece spot at m) w v r h = same w v (flips_same spot at _ w v r h)
plays_not (step.FlipDay i k at) w v r h = same w v (harms_same (at + 1) (flipped at) i k w v r h)
plays_not (step.CutDay i k n) w v r h = same w v (harms_same n (take n) i k w v r h)
plays_not (step.Part i) w v r h = parts_run w v i (Err r) h
plays_not (step.Sweeper m) w v r h = sweeps_run m w v (Err r) h
plays_not step.Stop w v r h = stops_run w v (Err r) h
plays_not step.Show w v r h = same w v (ap system_of h.1)

line_runs : (l : List ℕ) (w v : World) (u : Unplayed) → LinePlayed l w (Err u) v → Run (system_of w) (system_of v)
line_runs l w v (unplayed.Fault f) h = same w v (ap system_of h.1)
line_runs l w v (unplayed.Refusal r) h = plays_not h.0 w v r h.2

pub runs_or_damages : (n : ℕ) (l : List ℕ) (w v : World) (r : Result (Option Answer) LineFault) → Answers n l w r v → RunsOrDamages r w v
runs_or_damages n l w v (Ok None) h = inr (same w v (ap system_of h.1))
runs_or_damages n l w v (Ok (Some a)) h = plays h.0 w v a h.2
runs_or_damages n l w v (Err e) h = inr (line_runs l w v e.why h.1)
