-- The steps of the sweeper: what it asks of a store, in which order, what it answers, and what it does then.
-- Each is of a sweeper that does `old` before it and `new` after it, with the answer a, and leads the store from s to t.
-- Assumes nothing.
use Rattle.std.specs.Prelude.{◌≡◌, ◌⊎◌, ℕ, true, false, Bool, List, [], ◌∷◌, length, replicate, slice_get, Some, None, Ok, Err, Option, Result}
use Rattle.cutting.specs.declared.refusal.Refusal.{Refusal}
use Rattle.cutting.specs.declared.refusal.Refusal.TheVariants.{NotAtThatPoint, Unfinished}
use Rattle.digest.specs.declared.value.Digest.{Digest}
use Rattle.store.specs.declared.sweep.Noted.{Noted}
use Rattle.store.specs.declared.sweep.Sweep.{Sweep}
use Rattle.store.specs.declared.sweep.Sweep.TheVariants as kept
use Rattle.store.specs.Asking.{Doing}
use Rattle.store.specs.Requests as request
use Rattle.store.specs.Requests.{EnlistOwn, Keep, Kept, Told, Refused, ThrowAway}
use Rattle.store.specs.State.{most_machines}
use Rattle.sweeper.specs.declared.done.Done.{Done}
use Rattle.sweeper.specs.declared.done.Done.TheVariants as done
use Rattle.sweeper.specs.declared.sweeper.Sweeper.{Sweeper}
use Rattle.sweeper.specs.declared.turns.Turns.{Turns}
use Rattle.sweeper.specs.Looking.{AllFinished, DividesAll, GathersUnused, GathersUsed, NotesAll}
use Rattle.sweeper.specs.Sweepers.{Sweeping, all_aside, decides_now, ends, is_ending, is_over, is_putting, is_resting, is_waiting, puts, rests, sweeping, turns_of, up, waits}

-- it may decide, where every machine has finished a day or some have not; or why it may not: it neither waits nor is to decide anew, or some machine has finished none
abbrev pub MayDecide : Sweeping → Bool → Result (Unit {0}) Refusal → Type 0
MayDecide old finished (Ok x) = (decides_now old ≡ true) × (finished ≡ true)
MayDecide old finished (Err r) = ((decides_now old ≡ false) × (r ≡ NotAtThatPoint)) ⊎ ((decides_now old ≡ true) × (finished ≡ false) × (r ≡ Unfinished))

module _ {S : Type 0} (does : Doing S) where
  -- it comes up, and does what is kept
  abbrev pub ComesUp : S → Result Sweeper Refusal → S → Type 0
  ComesUp s (Ok w) t = (x : Sweep) × does s Kept (request.Sweeping x) t × (sweeping w ≡ up x)
  ComesUp s (Err r) t = does s Kept (Refused r) t

  -- what is to be put aside, or why that is not looked for: the days cannot be read, or are not whole; it does not rest; or the lists cannot be read
  abbrev pub FindsUnused : Sweeping → S → Result (List Digest) Refusal → S → Type 0
  FindsUnused old s (Ok left) t = (used : List Digest) × (m : S) × GathersUsed does s [] (Ok tt) m used × (old ≡ rests) × GathersUnused does used m [] (Ok tt) t left
  FindsUnused old s (Err r) t =
      ((v : List Digest) × GathersUsed does s [] (Err r) t v)
      ⊎ ((used : List Digest) × (m : S) × GathersUsed does s [] (Ok tt) m used
      × (((is_resting old ≡ false) × (r ≡ NotAtThatPoint) × (t ≡ m)) ⊎ ((old ≡ rests) × (v : List Digest) × GathersUnused does used m [] (Err r) t v)))

  -- look
  abbrev pub Looks : Sweeping → S → Result Done Refusal → Sweeping → S → Type 0
  Looks old s (Ok (done.Looked k)) new t = (left : List Digest) × FindsUnused old s (Ok left) t × (new ≡ puts left) × (k ≡ length left)
  Looks old s (Err r) new t = (new ≡ old) × FindsUnused old s (Err r) t
  Looks old s (Ok other) new t = ⊥

  -- the first that is left is listed, and then put aside; or why it is not: none is left; or it cannot be listed, or not put aside
  abbrev pub PutsFirst : List Digest → S → Result Done Refusal → List Digest → S → Type 0
  PutsFirst left s (Ok (done.PutAside n)) new t = (left ≡ n ∷ new) × (m : S) × (b : Bool) × does s (EnlistOwn n) request.Done m × does m (request.PutAside n) (Told b) t
  PutsFirst left s (Err r) new t =
      (new ≡ left)
      × (((left ≡ []) × (r ≡ NotAtThatPoint) × (t ≡ s))
      ⊎ ((n : Digest) × (slice_get left 0 ≡ Some n)
      × (does s (EnlistOwn n) (Refused r) t ⊎ ((m : S) × does s (EnlistOwn n) request.Done m × does m (request.PutAside n) (Refused r) t))))
  PutsFirst left s (Ok other) new t = ⊥

  -- put aside
  abbrev pub PutsAside : Sweeping → S → Result Done Refusal → Sweeping → S → Type 0
  PutsAside old s a new t =
      ((is_putting old ≡ false) × (a ≡ Err NotAtThatPoint) × (new ≡ old) × (t ≡ s))
      ⊎ ((left more : List Digest) × (old ≡ puts left) × (new ≡ puts more) × PutsFirst left s a more t)

  -- the highest number of every machine
  abbrev pub Numbers : S → Result Noted Refusal → S → Type 0
  Numbers s (Ok h) t = NotesAll does s (replicate most_machines 0) (Ok tt) t h.highest
  Numbers s (Err r) t = (v : List ℕ) × NotesAll does s (replicate most_machines 0) (Err r) t v

  -- the numbers are noted and kept; or why they are not: not all is aside; or they cannot be asked for, or not be kept
  abbrev pub NotesNumbers : Sweeping → S → Result Noted Refusal → S → Type 0
  NotesNumbers old s (Ok h) t = (old ≡ puts []) × (m : S) × Numbers s (Ok h) m × does m (Keep (kept.Waits h)) request.Done t
  NotesNumbers old s (Err r) t =
      ((all_aside old ≡ false) × (r ≡ NotAtThatPoint) × (t ≡ s))
      ⊎ ((old ≡ puts []) × (Numbers s (Err r) t ⊎ ((h : Noted) × (m : S) × Numbers s (Ok h) m × does m (Keep (kept.Waits h)) (Refused r) t)))

  -- note
  abbrev pub Notes : Sweeping → S → Result Done Refusal → Sweeping → S → Type 0
  Notes old s (Ok done.Noted) new t = (h : Noted) × NotesNumbers old s (Ok h) t × (new ≡ waits h)
  Notes old s (Err r) new t = (new ≡ old) × NotesNumbers old s (Err r) t
  Notes old s (Ok other) new t = ⊥

  -- whether every machine on the list has a day above its noted number; where it does not wait, nothing is asked
  abbrev pub AsksFinished : Sweeping → S → Result Bool Refusal → S → Type 0
  AsksFinished old s (Ok b) t = ((h : Noted) × (old ≡ waits h) × AllFinished does h s true (Ok tt) t b) ⊎ ((is_waiting old ≡ false) × (t ≡ s) × (b ≡ true))
  AsksFinished old s (Err r) t = (h : Noted) × (b : Bool) × (old ≡ waits h) × AllFinished does h s true (Err r) t b

  -- the days above the noted numbers are looked for before what days have is read
  abbrev pub ReadsDays : Sweeping → S → Result (List Digest) Refusal → S → Type 0
  ReadsDays old s (Ok used) t = (b : Bool) × (m : S) × AsksFinished old s (Ok b) m × GathersUsed does m [] (Ok tt) t used × MayDecide old b (Ok tt)
  ReadsDays old s (Err r) t =
      AsksFinished old s (Err r) t
      ⊎ ((b : Bool) × (m : S) × AsksFinished old s (Ok b) m
      × (((v : List Digest) × GathersUsed does m [] (Err r) t v) ⊎ ((used : List Digest) × GathersUsed does m [] (Ok tt) t used × MayDecide old b (Err r))))

  -- what is to go back and what away, and that it has decided is kept; or why not
  abbrev pub FindsTurns : Sweeping → S → Result Turns Refusal → S → Type 0
  FindsTurns old s (Ok turns) t =
      (used : List Digest) × (m n : S) × ReadsDays old s (Ok used) m × DividesAll does used m ([], []) (Ok tt) n (turns_of turns) × does n (Keep kept.Ends) request.Done t
  FindsTurns old s (Err r) t =
      ReadsDays old s (Err r) t
      ⊎ ((used : List Digest) × (m : S) × (v : List Digest × List Digest) × ReadsDays old s (Ok used) m
      × (DividesAll does used m ([], []) (Err r) t v ⊎ ((n : S) × DividesAll does used m ([], []) (Ok tt) n v × does n (Keep kept.Ends) (Refused r) t)))

  -- after a turn it rests if none is left, and that is kept
  abbrev pub RestsIfDone : List Digest × List Digest → S → Result (Unit {0}) Refusal → Sweeping → S → Type 0
  RestsIfDone turns s (Ok x) new t =
      ((turns ≡ ([], [])) × (new ≡ rests) × does s (Keep kept.Rests) request.Done t) ⊎ ((is_over turns ≡ false) × (new ≡ ends turns.0 turns.1) × (t ≡ s))
  RestsIfDone turns s (Err r) new t = (turns ≡ ([], [])) × (new ≡ ends [] []) × does s (Keep kept.Rests) (Refused r) t

  -- decide
  abbrev pub Decides : Sweeping → S → Result Done Refusal → Sweeping → S → Type 0
  Decides old s (Ok (done.Decided b a)) new t =
      (turns : Turns) × (m : S) × FindsTurns old s (Ok turns) m × RestsIfDone (turns_of turns) m (Ok tt) new t × (b ≡ length turns.back.keys) × (a ≡ length turns.away.keys)
  Decides old s (Err r) new t =
      ((new ≡ old) × FindsTurns old s (Err r) t) ⊎ ((turns : Turns) × (m : S) × FindsTurns old s (Ok turns) m × RestsIfDone (turns_of turns) m (Err r) new t)
  Decides old s (Ok other) new t = ⊥

  -- one piece is put back, or else thrown away; None where nothing is left
  abbrev pub TakesTurn : List Digest × List Digest → S → Result (Option Done) Refusal → List Digest × List Digest → S → Type 0
  TakesTurn old s (Ok (Some (done.PutBack n))) new t = (old ≡ (n ∷ new.0, new.1)) × (b : Bool) × does s (request.PutBack n) (Told b) t
  TakesTurn old s (Ok (Some (done.ThrownAway n))) new t = (old ≡ ([], n ∷ new.1)) × (new.0 ≡ []) × (b : Bool) × does s (ThrowAway n) (Told b) t
  TakesTurn old s (Ok None) new t = (old ≡ ([], [])) × (new ≡ old) × (t ≡ s)
  TakesTurn old s (Err r) new t = (new ≡ old) × (n : Digest) × (does s (request.PutBack n) (Refused r) t ⊎ does s (ThrowAway n) (Refused r) t)
  TakesTurn old s (Ok (Some other)) new t = ⊥

  -- next: a turn, and then it may rest
  abbrev pub Turn : List Digest × List Digest → S → Result Done Refusal → Sweeping → S → Type 0
  Turn old s (Ok done.Rested) new t = (old ≡ ([], [])) × RestsIfDone ([], []) s (Ok tt) new t
  Turn old s (Ok d) new t = (turns : List Digest × List Digest) × (m : S) × TakesTurn old s (Ok (Some d)) turns m × RestsIfDone turns m (Ok tt) new t
  Turn old s (Err r) new t =
      ((new ≡ ends old.0 old.1) × TakesTurn old s (Err r) old t)
      ⊎ ((d : Option Done) × (turns : List Digest × List Digest) × (m : S) × TakesTurn old s (Ok d) turns m × RestsIfDone turns m (Err r) new t)

  abbrev pub Nexts : Sweeping → S → Result Done Refusal → Sweeping → S → Type 0
  Nexts old s a new t =
      ((is_ending old ≡ false) × (a ≡ Err NotAtThatPoint) × (new ≡ old) × (t ≡ s)) ⊎ ((turns : List Digest × List Digest) × (old ≡ ends turns.0 turns.1) × Turn turns s a new t)
