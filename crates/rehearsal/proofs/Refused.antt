-- A line that is refused by a number leaves everything as it was, or most of it.
-- Assumes nothing.
use Rattle.std.proofs.Common.{◌≡◌, ◌∙◌, inl, inr, ℕ, List, Some, Ok, Err, Option, Result, IfErr, ap, refl, subst, ◌+◌, take}
use Rattle.cutting.specs.declared.refusal.Refusal.{Refusal}
use Rattle.cutting.specs.declared.refusal.Refusal.TheVariants.{TooManyNames}
use Rattle.cutting.specs.Refusals.{number_of}
use Rattle.script.specs.Lines.{rest}
use Rattle.store.specs.declared.memory.Memory.{Memory}
use Rattle.store.specs.Damages.{flipped}
use Rattle.store.specs.Memories.{state_of}
use Rattle.store.specs.Requests.{Kept, LetGo}
use Rattle.store.specs.State.{State}
use Rattle.days.specs.Machines.{Work}
use Rattle.store.proofs.Exact.{refused}
use Rattle.days.specs.Promise.{OnlyLists}
use Rattle.days.proofs.Kept.{kept}
use Rattle.sweeper.proofs.Kept as sweeps
use Rattle.sweeper.specs.Sweepers.{Sweeping, sweeping}
use Rattle.rehearsal.specs.declared.answer.Answer.{Answer}
use Rattle.rehearsal.specs.declared.line.LineFault.{LineFault}
use Rattle.rehearsal.specs.declared.name.StepName.{StepName}
use Rattle.rehearsal.specs.declared.name.StepName.TheVariants as name
use Rattle.rehearsal.specs.declared.step.Act.{Act}
use Rattle.rehearsal.specs.declared.step.Act.TheVariants as act
use Rattle.rehearsal.specs.declared.step.Move.{Move}
use Rattle.rehearsal.specs.declared.step.Move.TheVariants as move
use Rattle.rehearsal.specs.declared.step.Step.{Step}
use Rattle.rehearsal.specs.declared.step.Step.TheVariants as step
use Rattle.rehearsal.specs.declared.unplayed.Unplayed.{Unplayed}
use Rattle.rehearsal.specs.declared.unplayed.Unplayed.TheVariants as unplayed
use Rattle.rehearsal.specs.declared.world.World.{World}
use Rattle.rehearsal.specs.Acts.{Acts, SweepsAs, memory_does}
use Rattle.rehearsal.specs.Answers.{Answers, LinePlayed, Plays}
use Rattle.rehearsal.specs.Names.{name_text}
use Rattle.rehearsal.specs.Steps.{ReadAs}
use Rattle.rehearsal.specs.Systems.{LeavesAll, LeavesMost, system_of}
use Rattle.rehearsal.specs.Worlds.{ActsIn, LetsGo, makes_at}
use Rattle.rehearsal.proofs.InSystem.{flips_same, harms_same}
use Rattle.rehearsal.proofs.Same.{all_same, back_same, exact, make_same, reads_same, same_system, store_same}

-- the step adds a file
abbrev IsFile : Step → Type 0
IsFile (step.Machine i (act.File path m)) = Unit {0}
IsFile other = ⊥

-- everything is left, or all but what a file that is refused may have listed
abbrev Leaves : Step → Refusal → World → World → Type 0
Leaves s r w v = LeavesMost w v × ((IsFile s → r ≡ TooManyNames → ⊥) → system_of v ≡ system_of w)

only_same : {s t : State} → t ≡ s → OnlyLists s t
only_same e =
    record {
      place = ap (λ x. x.place) e;
      aside = ap (λ x. x.aside) e;
      own = ap (λ x. x.own) e;
      days = ap (λ x. x.days) e;
      highest = ap (λ x. x.highest) e;
      machines = ap (λ x. x.machines) e;
      sweep = ap (λ x. x.sweep) e;
    }

most : (w v : World) → system_of v ≡ system_of w → LeavesMost w v
most w v e = (only_same (ap (λ x. x.store) e), ap (λ x. x.makes) e, ap (λ x. x.sweeper) e)

leaves : {X : Type 0} (w v : World) → system_of v ≡ system_of w → LeavesMost w v × (X → system_of v ≡ system_of w)
leaves w v e = (most w v e, λ x. e)

-- a step that adds no file and is refused
no_file : {X : Type 0} {old new : Option Work} {s t : State} → (t ≡ s) × (new ≡ old) → (new ≡ old) × OnlyLists s t × (X → t ≡ s)
no_file (e, f) = (f, only_same e, λ x. e)

-- a machine's step that is refused
acts_refused : (a : Act) (w v : World) (i k : ℕ) (r : Refusal) → number_of r ≡ Some k → Acts a i (makes_at w i) w.store (Err r) (makes_at v i) v.store →
    (makes_at v i ≡ makes_at w i) × OnlyLists (state_of w.store) (state_of v.store) × ((IsFile (step.Machine i a) → r ≡ TooManyNames → ⊥) → state_of v.store ≡ state_of w.store)
acts_refused act.Begin w v i k r e h = no_file ((kept memory_does state_of exact).refused i k _ _ w.store v.store r e (inl h))
acts_refused (act.See m) w v i k r e (inl h) = no_file ((kept memory_does state_of exact).refused i k _ _ w.store v.store r e (inr (inl (_, h))))
acts_refused (act.See m) w v i k r e (inr (some, is, new, f)) = no_file (ap state_of f, new)
acts_refused (act.File path m) w v i k r e (inl h) =
    let x = (kept memory_does state_of exact).add_refused i k _ _ _ _ w.store v.store r e h in
    (x.0, x.1, λ full. x.2 (full tt))
acts_refused (act.File path m) w v i k r e (inr (some, is, new, f)) = no_file (ap state_of f, new)
acts_refused act.Raise w v i k r e h = no_file ((kept memory_does state_of exact).refused i k _ _ w.store v.store r e (inr (inr (inl h))))
acts_refused act.Name w v i k r e h = no_file ((kept memory_does state_of exact).refused i k _ _ w.store v.store r e (inr (inr (inr (inl h)))))
acts_refused act.Break w v i k r e h = no_file ((kept memory_does state_of exact).refused i k _ _ w.store v.store r e (inr (inr (inr (inr h)))))

in_world_refused : (a : Act) (w v : World) (i k : ℕ) (r : Refusal) → number_of r ≡ Some k → ActsIn a i w (Err r) v → Leaves (step.Machine i a) r w v
in_world_refused a w v i k r e (inl (x, is, why, f)) = leaves w v (ap system_of f)
in_world_refused a w v i k r e (inr (fits, inl (above, is, f))) = leaves w v (ap system_of f)
in_world_refused a w v i k r e (inr (fits, inr (below, h, others, f))) =
    let x = acts_refused a w v i k r e h in
    let make = all_same w v i x.0 others in
    ((x.1, make, ap sweeping f), λ full. same_system w v (x.2 full) make (ap sweeping f))

goes_refused : (w v : World) (i k : ℕ) (r : Refusal) → LetsGo i k w (Err r) v → system_of v ≡ system_of w
goes_refused w v i k r (inr (above, is, e)) = ap system_of e
goes_refused w v i k r (inl (below, h, o)) = store_same w v (refused (state_of w.store) (state_of v.store) (LetGo (record { machine = i; number = k })) r h) o

-- a step of the sweeper that is refused
sweeps_refused : (m : Move) (old new : Sweeping) (s t : Memory) (r : Refusal) (k : ℕ) → number_of r ≡ Some k → SweepsAs m old s (Err r) new t → (state_of t ≡ state_of s) × (new ≡ old)
sweeps_refused move.Look old new s t r k e h = (sweeps.kept memory_does state_of exact).refused old new s t r k e (inl h)
sweeps_refused move.Aside old new s t r k e h = (sweeps.kept memory_does state_of exact).refused old new s t r k e (inr (inl h))
sweeps_refused move.Note old new s t r k e h = (sweeps.kept memory_does state_of exact).refused old new s t r k e (inr (inr (inl h)))
sweeps_refused move.Decide old new s t r k e h = (sweeps.kept memory_does state_of exact).refused old new s t r k e (inr (inr (inr (inl h))))
sweeps_refused move.Next old new s t r k e h = (sweeps.kept memory_does state_of exact).refused old new s t r k e (inr (inr (inr (inr h))))

plays_refused : (s : Step) (w v : World) (r : Refusal) (k : ℕ) → number_of r ≡ Some k → Plays s w (Err r) v → Leaves s r w v
plays_refused (step.Digest m) w v r k e h = absurd h
plays_refused (step.Cut m) w v r k e h = leaves w v (ap system_of h.1)
plays_refused (step.Machine i a) w v r k e h = in_world_refused a w v i k r e h
plays_refused (step.LetGo i n) w v r k e h = leaves w v (goes_refused w v i n r h)
plays_refused (step.Back i n path) w v r k e h = leaves w v (back_same i n _ w v (Err r) h)
plays_refused (step.Bytes i n) w v r k e h = leaves w v (reads_same i n w v (Err r) h)
plays_refused (step.FlipPiece spot at m) w v r k e h = leaves w v (flips_same spot at _ w v r h)
plays_refused (step.FlipDay i n at) w v r k e h = leaves w v (harms_same (at + 1) (flipped at) i n w v r h)
plays_refused (step.CutDay i n left) w v r k e h = leaves w v (harms_same left (take left) i n w v r h)
plays_refused (step.Part i) w v r k e h = leaves w v (ap system_of h.2)
plays_refused (step.Sweeper m) w v r k e (h, f) =
    let x = sweeps_refused m (sweeping w.sweeper) (sweeping v.sweeper) w.store v.store r k e h in
    leaves w v (same_system w v x.0 (make_same w v f) x.1)
plays_refused step.Stop w v r k e (h, o) = leaves w v (store_same w v (refused (state_of w.store) (state_of v.store) Kept r h) o)
plays_refused step.Show w v r k e h = leaves w v (ap system_of h.1)

-- only a line that is called so adds a file
is_file : (n : StepName) (w : List ℕ) (s : Step) → ReadAs n w (Ok s) → IsFile s → n ≡ name.File
is_file name.File w s h f = refl
is_file name.Digest w s h f = absurd (subst IsFile h.1 f)
is_file name.Cut w s h f = absurd (subst IsFile h.1 f)
is_file name.Begin w s h f = absurd (subst IsFile h.1 f)
is_file name.See w s h f = absurd (subst IsFile h.1 f)
is_file name.Raise w s h f = absurd (subst IsFile h.1 f)
is_file name.Name w s h f = absurd (subst IsFile h.1 f)
is_file name.Break w s h f = absurd (subst IsFile h.1 f)
is_file name.Go w s h f = absurd (subst IsFile h.1 f)
is_file name.Back w s h f = absurd (subst IsFile h.1 f)
is_file name.Bytes w s h f = absurd (subst IsFile h.1 f)
is_file name.FlipPlace w s h f = absurd (subst IsFile h.1 f)
is_file name.FlipAside w s h f = absurd (subst IsFile h.1 f)
is_file name.FlipDay w s h f = absurd (subst IsFile h.1 f)
is_file name.CutDay w s h f = absurd (subst IsFile h.1 f)
is_file name.Part w s h f = absurd (subst IsFile h.1 f)
is_file name.Look w s h f = absurd (subst IsFile h.1 f)
is_file name.Aside w s h f = absurd (subst IsFile h.1 f)
is_file name.Note w s h f = absurd (subst IsFile h.1 f)
is_file name.Decide w s h f = absurd (subst IsFile h.1 f)
is_file name.Next w s h f = absurd (subst IsFile h.1 f)
is_file name.Stop w s h f = absurd (subst IsFile h.1 f)
is_file name.Show w s h f = absurd (subst IsFile h.1 f)

line_leaves : (l : List ℕ) (w v : World) (u : Unplayed) → LinePlayed l w (Err u) v → LeavesAll l u w v
line_leaves l w v (unplayed.Fault f) h = h.1
line_leaves l w v (unplayed.Refusal r) (s, (n, named, read), h) = λ k e.
    let x = plays_refused s w v r k e h in
    (x.0, λ full. x.1 (λ f m. full (named ∙ ap name_text (is_file n (rest l) s read f), m)))

pub leaves_all : (n : ℕ) (l : List ℕ) (w v : World) (r : Result (Option Answer) LineFault) → Answers n l w r v → IfErr r (λ e. LeavesAll l e.why w v)
leaves_all n l w v (Ok a) h = tt
leaves_all n l w v (Err e) h = line_leaves l w v e.why h.1
