-- What is written for a line.
-- Assumes nothing.
use Rattle.std.specs.Prelude.{◌≡◌, ℕ, ◌-◌, if◌then◌else◌, List, [], ◌∷◌, length, take, nat_eq, Some, None, Ok, Err, vec_items, Option, Result}
use Rattle.std.specs.List.{ends_with}
use Rattle.cutting.specs.declared.refusal.Refusal.{Refusal}
use Rattle.cutting.specs.declared.refusal.Refusal.TheVariants.{NoMemory}
use Rattle.digest.specs.Digests.{digest_of}
use Rattle.script.specs.Messages.{bytes_of}
use Rattle.store.specs.Memories.{state_of}
use Rattle.sweeper.specs.Sweepers.{sweeping}
use Rattle.rehearsal.specs.declared.answer.Answer.{Answer}
use Rattle.rehearsal.specs.declared.answer.Answer.TheVariants as answer
use Rattle.rehearsal.specs.declared.line.LineFault.{LineFault}
use Rattle.rehearsal.specs.declared.step.Step.{Step}
use Rattle.rehearsal.specs.declared.step.Step.TheVariants as step
use Rattle.rehearsal.specs.declared.unplayed.Unplayed.{Unplayed}
use Rattle.rehearsal.specs.declared.unplayed.Unplayed.TheVariants as unplayed
use Rattle.rehearsal.specs.declared.world.World.{World}
use Rattle.rehearsal.specs.Listings.{Lists}
use Rattle.rehearsal.specs.Shows.{Shows}
use Rattle.rehearsal.specs.Steps.{Passes, StepRead}
use Rattle.rehearsal.specs.Worlds.{ActsIn, CutsDay, FlipsDay, FlipsPiece, HasBack, LetsGo, Parts, ReadsDay, Stops, Sweeps}

-- what a step answers, and what it leaves of the world w: the digest of bytes, or the list of their pieces; what a machine or the sweeper has done; that a day is let go, a machine gone, the sweeper stopped, something damaged; the bytes of a file; what is where; or why that is refused
abbrev pub Plays : Step → World → Result Answer Refusal → World → Type 0
Plays (step.Digest m) w (Ok (answer.Digest d)) v = (d ≡ digest_of (bytes_of m)) × (v ≡ w)
Plays (step.Cut m) w (Ok (answer.Pieces x)) v = Lists (bytes_of m) (Ok x) × (v ≡ w)
Plays (step.Cut m) w (Err r) v = Lists (bytes_of m) (Err r) × (v ≡ w)
Plays (step.Machine i act) w (Ok (answer.Done d)) v = ActsIn act i w (Ok d) v
Plays (step.Machine i act) w (Err r) v = ActsIn act i w (Err r) v
Plays (step.LetGo i k) w (Ok answer.LetGo) v = LetsGo i k w (Ok tt) v
Plays (step.LetGo i k) w (Err r) v = LetsGo i k w (Err r) v
Plays (step.Back i k path) w (Ok (answer.File x)) v = HasBack i k (vec_items path) w (Ok x) v
Plays (step.Back i k path) w (Err r) v = HasBack i k (vec_items path) w (Err r) v
Plays (step.Bytes i k) w (Ok (answer.File x)) v = ReadsDay i k w (Ok x) v
Plays (step.Bytes i k) w (Err r) v = ReadsDay i k w (Err r) v
Plays (step.FlipPiece spot at m) w (Ok answer.Flipped) v = FlipsPiece spot at (digest_of (bytes_of m)) w (Ok tt) v
Plays (step.FlipPiece spot at m) w (Err r) v = FlipsPiece spot at (digest_of (bytes_of m)) w (Err r) v
Plays (step.FlipDay i k at) w (Ok answer.Flipped) v = FlipsDay i k at w (Ok tt) v
Plays (step.FlipDay i k at) w (Err r) v = FlipsDay i k at w (Err r) v
Plays (step.CutDay i k n) w (Ok answer.Cut) v = CutsDay i k n w (Ok tt) v
Plays (step.CutDay i k n) w (Err r) v = CutsDay i k n w (Err r) v
Plays (step.Part i) w (Ok answer.Parted) v = Parts i w (Ok tt) v
Plays (step.Part i) w (Err r) v = Parts i w (Err r) v
Plays (step.Sweeper m) w (Ok (answer.Swept d)) v = Sweeps m w (Ok d) v
Plays (step.Sweeper m) w (Err r) v = Sweeps m w (Err r) v
Plays step.Stop w (Ok answer.Stopped) v = Stops w (Ok tt) v
Plays step.Stop w (Err r) v = Stops w (Err r) v
Plays step.Show w (Ok (answer.Shown x)) v = Shows (state_of w.store) (vec_items w.machines) (sweeping w.sweeper) x × (v ≡ w)
Plays step.Show w (Err r) v = (r ≡ NoMemory) × (v ≡ w)
Plays _ _ _ _ = ⊥

-- what playing a line gives: nothing where it passes, what its step answers, its fault, or the refusal of its step
abbrev pub LinePlayed : List ℕ → World → Result (Option Answer) Unplayed → World → Type 0
LinePlayed l w (Ok None) v = Passes l × (v ≡ w)
LinePlayed l w (Ok (Some a)) v = (s : Step) × StepRead l (Ok (Some s)) × Plays s w (Ok a) v
LinePlayed l w (Err (unplayed.Fault f)) v = StepRead l (Err f) × (v ≡ w)
LinePlayed l w (Err (unplayed.Refusal r)) v = (s : Step) × StepRead l (Ok (Some s)) × Plays s w (Err r) v

-- the answer to line number n: that, under its number where it is not played
abbrev pub Answers : ℕ → List ℕ → World → Result (Option Answer) LineFault → World → Type 0
Answers n l w (Ok a) v = LinePlayed l w (Ok a) v
Answers n l w (Err e) v = (e.number ≡ n) × LinePlayed l w (Err e.why) v

-- a line without the carriage return that may be its last byte
abbrev pub chomped : List ℕ → List ℕ
chomped l = if ends_with nat_eq l (13 ∷ []) then take (length l - 1) l else l

-- the longest line that is looked at
abbrev pub most : ℕ
most = 67108864
