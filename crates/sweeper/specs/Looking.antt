-- What the sweeper asks when it looks and when it decides, in which order, and what it gathers from the answers.
-- Assumes nothing.
use Rattle.std.specs.Prelude.{◌≡◌, ◌≢◌, ◌⊎◌, ℕ, ◌+◌, ◌-◌, true, false, cond, Bool, Decides, List, Some, None, Ok, Err, Option, Result, is_some, slice_set}
use Rattle.std.specs.BTreeSet.{insert_key}
use Rattle.cutting.specs.declared.refusal.Refusal.{Refusal}
use Rattle.cutting.specs.declared.refusal.Refusal.TheVariants.{BadDay, NoMemory}
use Rattle.digest.specs.declared.value.Digest.{Digest}
use Rattle.digest.specs.Digests.{digest_of}
use Rattle.store.specs.declared.day.DayName.{DayName}
use Rattle.store.specs.declared.piece.Spot.{Spot}
use Rattle.store.specs.declared.piece.Spot.TheVariants.{Place, Aside}
use Rattle.store.specs.declared.sweep.Noted.{Noted}
use Rattle.store.specs.Asking.{Doing}
use Rattle.store.specs.Memories.{name_cmp}
use Rattle.store.specs.Requests.{Request, HasMachine, Read, Highest, NamesOf, OwnNames, ReadDay, Told, Bytes, Number, Names, Refused}
use Rattle.store.specs.State.{is_in, most_machines}
use Rattle.dayfile.specs.Entries.{Entry, names_of}
use Rattle.dayfile.specs.Reads.{NotRead}
use Rattle.dayfile.specs.Stored.{IsDayOf}
use Rattle.sweeper.specs.Loops.{Each, Go, Loop}
use Rattle.sweeper.specs.Pieces.{IsRight}
use Rattle.sweeper.specs.Sweepers.{noted_of}

-- names, with one more at its place in the order unless it is there
abbrev pub insert : Digest → List Digest → List Digest
insert n ns = insert_key name_cmp ns n

module _ {S : Type 0} (does : Doing S) where
  -- whether what lies in a spot is of its name
  abbrev pub ReadsRight : Spot → Digest → S → Result Bool Refusal → S → Type 0
  ReadsRight spot n s (Ok b) t = (x : Option (List ℕ)) × does s (Read spot n) (Bytes x) t × Decides b (IsRight n x)
  ReadsRight spot n s (Err r) t = does s (Read spot n) (Refused r) t

  -- a piece of a day is there: in its place, or else aside
  abbrev pub Checks : Digest → S → Result (Unit {0}) Refusal → S → Type 0
  Checks n s (Ok x) t = ReadsRight Place n s (Ok true) t ⊎ ((m : S) × ReadsRight Place n s (Ok false) m × ReadsRight Aside n m (Ok true) t)
  Checks n s (Err r) t =
      ReadsRight Place n s (Err r) t
      ⊎ ((m : S) × ReadsRight Place n s (Ok false) m × (ReadsRight Aside n m (Err r) t ⊎ (ReadsRight Aside n m (Ok false) t × (r ≡ BadDay))))

  -- a piece of a day is checked and remembered, unless it is already
  abbrev pub AddsPiece : Digest → Go S (List Digest)
  AddsPiece n s u (Ok x) t v = ((is_in n u ≡ true) × (t ≡ s) × (v ≡ u)) ⊎ ((is_in n u ≡ false) × Checks n s (Ok tt) t × (v ≡ insert n u))
  AddsPiece n s u (Err r) t v = (is_in n u ≡ false) × (Checks n s (Err r) t ⊎ (Checks n s (Ok tt) t × (r ≡ NoMemory)))

  -- so is every piece of a day, if there is such a day and its file is of its form; of day number k + 1 of a machine; of all, from 1 to its highest
  abbrev pub AddsDay : DayName → Go S (List Digest)
  AddsDay d s u (Ok x) t v =
      (does s (ReadDay d) (Bytes None) t × (v ≡ u))
      ⊎ ((b : List ℕ) × (es : List Entry) × (m : S) × does s (ReadDay d) (Bytes (Some b)) m × IsDayOf d es b × Each AddsPiece (names_of es) m u (Ok tt) t v)
  AddsDay d s u (Err r) t v =
      does s (ReadDay d) (Refused r) t
      ⊎ (((b : List ℕ) × does s (ReadDay d) (Bytes (Some b)) t × NotRead d b r)
      ⊎ ((b : List ℕ) × (es : List Entry) × (m : S) × does s (ReadDay d) (Bytes (Some b)) m × IsDayOf d es b × Each AddsPiece (names_of es) m u (Err r) t v))

  abbrev pub AddsDayOf : ℕ → ℕ → Go S (List Digest)
  AddsDayOf i k = AddsDay (record { machine = i; number = k + 1 })

  abbrev pub AddsDays : ℕ → Go S (List Digest)
  AddsDays i s u (Ok x) t v = (h : ℕ) × (m : S) × does s (Highest i) (Number h) m × Loop (AddsDayOf i) h m u (Ok tt) t v
  AddsDays i s u (Err r) t v =
      does s (Highest i) (Refused r) t
      ⊎ ((h : ℕ) × (m : S) × does s (Highest i) (Number h) m × Loop (AddsDayOf i) h m u (Err r) t v)

  -- all pieces that days have, of all machines
  abbrev pub GathersUsed : Go S (List Digest)
  GathersUsed s u a t v = Loop AddsDays most_machines s u a t v

  -- a listed name is remembered if no day has it and something lies in its place
  abbrev pub AddsName : List Digest → Digest → Go S (List Digest)
  AddsName used n s u (Ok x) t v =
      ((is_in n used ≡ true) × (t ≡ s) × (v ≡ u))
      ⊎ ((is_in n used ≡ false) × (b : Option (List ℕ)) × does s (Read Place n) (Bytes b) t × (v ≡ cond (is_some b) (insert n u) u))
  AddsName used n s u (Err r) t v =
      (is_in n used ≡ false) × (does s (Read Place n) (Refused r) t ⊎ ((b : Option (List ℕ)) × does s (Read Place n) (Bytes b) t × (r ≡ NoMemory)))

  -- so is every name of a list; of all lists of machines; of all, the sweeper's as the last
  abbrev pub AddsList : List Digest → Request → Go S (List Digest)
  AddsList used q s u (Ok x) t v = (ns : List Digest) × (m : S) × does s q (Names ns) m × Each (AddsName used) ns m u (Ok tt) t v
  AddsList used q s u (Err r) t v = does s q (Refused r) t ⊎ ((ns : List Digest) × (m : S) × does s q (Names ns) m × Each (AddsName used) ns m u (Err r) t v)

  abbrev pub AddsListOf : List Digest → ℕ → Go S (List Digest)
  AddsListOf used i = AddsList used (NamesOf i)

  abbrev pub AddsLists : List Digest → Go S (List Digest)
  AddsLists used s u a t v = Loop (AddsListOf used) most_machines s u a t v

  abbrev pub GathersUnused : List Digest → Go S (List Digest)
  GathersUnused used s u (Ok x) t v = (m : S) × (w : List Digest) × AddsLists used s u (Ok tt) m w × AddsList used OwnNames m w (Ok tt) t v
  GathersUnused used s u (Err r) t v = AddsLists used s u (Err r) t v ⊎ ((m : S) × (w : List Digest) × AddsLists used s u (Ok tt) m w × AddsList used OwnNames m w (Err r) t v)

  -- whether there is such a day
  abbrev pub HasDay : DayName → S → Result Bool Refusal → S → Type 0
  HasDay d s (Ok b) t = (x : Option (List ℕ)) × does s (ReadDay d) (Bytes x) t × (b ≡ is_some x)
  HasDay d s (Err r) t = does s (ReadDay d) (Refused r) t

  -- or day number noted + k + 1 of a machine, if none was found
  abbrev pub OrDay : ℕ → ℕ → ℕ → Go S Bool
  OrDay i noted k s u (Ok x) t v = ((u ≡ true) × (v ≡ true) × (t ≡ s)) ⊎ ((u ≡ false) × HasDay (record { machine = i; number = noted + k + 1 }) s (Ok v) t)
  OrDay i noted k s u (Err r) t v = (u ≡ false) × HasDay (record { machine = i; number = noted + k + 1 }) s (Err r) t

  -- whether a machine has a day above this number, up to its highest
  abbrev pub Finished : ℕ → ℕ → S → Result Bool Refusal → S → Type 0
  Finished i noted s (Ok b) t =
      (h : ℕ) × (m : S) × does s (Highest i) (Number h) m × Loop (OrDay i noted) (h - noted) m false (Ok tt) t b
  Finished i noted s (Err r) t =
      does s (Highest i) (Refused r) t
      ⊎ ((h : ℕ) × (m : S) × (v : Bool) × does s (Highest i) (Number h) m × Loop (OrDay i noted) (h - noted) m false (Err r) t v)

  -- so has a machine, or it is not on the list
  abbrev pub FinishedIfListed : ℕ → ℕ → S → Result Bool Refusal → S → Type 0
  FinishedIfListed i noted s (Ok b) t = (does s (HasMachine i) (Told false) t × (b ≡ true)) ⊎ ((m : S) × does s (HasMachine i) (Told true) m × Finished i noted m (Ok b) t)
  FinishedIfListed i noted s (Err r) t = does s (HasMachine i) (Refused r) t ⊎ ((m : S) × does s (HasMachine i) (Told true) m × Finished i noted m (Err r) t)

  -- and this one, if all before it have
  abbrev pub AndMachine : Noted → ℕ → Go S Bool
  AndMachine h i s u (Ok x) t v = ((u ≡ false) × (v ≡ false) × (t ≡ s)) ⊎ ((u ≡ true) × FinishedIfListed i (noted_of h i) s (Ok v) t)
  AndMachine h i s u (Err r) t v = (u ≡ true) × FinishedIfListed i (noted_of h i) s (Err r) t

  -- whether every machine on the list has a day above its noted number
  abbrev pub AllFinished : Noted → Go S Bool
  AllFinished h s u a t v = Loop (AndMachine h) most_machines s u a t v

  -- what lies aside under a name is to go back if a day has it and its bytes are right, and else away
  abbrev pub Divided : List Digest → Digest → Option (List ℕ) → List Digest × List Digest → List Digest × List Digest → Type 0
  Divided used n None u v = v ≡ u
  Divided used n (Some b) u v =
      ((is_in n used ≡ true) × (digest_of b ≡ n) × (v ≡ (insert n u.0, u.1)))
      ⊎ (((is_in n used ≡ false) ⊎ (digest_of b ≢ n)) × (v ≡ (u.0, insert n u.1)))

  abbrev pub Divides : List Digest → Digest → Go S (List Digest × List Digest)
  Divides used n s u (Ok x) t v = (b : Option (List ℕ)) × does s (Read Aside n) (Bytes b) t × Divided used n b u v
  Divides used n s u (Err r) t v = does s (Read Aside n) (Refused r) t ⊎ ((b : Option (List ℕ)) × does s (Read Aside n) (Bytes b) t × (r ≡ NoMemory))

  -- so for every name in the sweeper's list
  abbrev pub DividesAll : List Digest → Go S (List Digest × List Digest)
  DividesAll used s u (Ok x) t v = (ns : List Digest) × (m : S) × does s OwnNames (Names ns) m × Each (Divides used) ns m u (Ok tt) t v
  DividesAll used s u (Err r) t v = does s OwnNames (Refused r) t ⊎ ((ns : List Digest) × (m : S) × does s OwnNames (Names ns) m × Each (Divides used) ns m u (Err r) t v)

  -- the highest number of a machine is noted; of all
  abbrev pub NotesOne : ℕ → Go S (List ℕ)
  NotesOne i s u (Ok x) t v = (h : ℕ) × does s (Highest i) (Number h) t × (v ≡ slice_set u i h)
  NotesOne i s u (Err r) t v = does s (Highest i) (Refused r) t

  abbrev pub NotesAll : Go S (List ℕ)
  NotesAll s u a t v = Loop NotesOne most_machines s u a t v
