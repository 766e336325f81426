-- What a store is asked for, and what it answers.
-- Assumes nothing.
use Rattle.std.specs.Prelude.{ℕ, Bool, List, Ok, Err, vec_items, Option, Result, Vec}
use Rattle.std.specs.Option.{option_map}
use Rattle.std.specs.declared.alloc.Global.{Global}
use Rattle.cutting.specs.declared.refusal.Refusal.{Refusal}
use Rattle.digest.specs.declared.value.Digest.{Digest}
use Rattle.store.specs.declared.day.DayName.{DayName}
use Rattle.store.specs.declared.listing.Listing.{Listing}
use Rattle.store.specs.declared.piece.Spot.{Spot}
use Rattle.store.specs.declared.sweep.Sweep.{Sweep}

-- what a machine or the sweeper asks for
pub data Request : Type 0 where
  -- is this machine on the list?
  HasMachine : (machine : ℕ) → Request
  -- the bytes that lie there under a name
  Read : Spot → (name : Digest) → Request
  -- add a name to the list of a machine
  Enlist : Listing → Request
  -- write a piece in its place
  Write : (name : Digest) → (bytes : List ℕ) → Request
  -- from its place aside, from aside to its place, from aside away
  PutAside : (name : Digest) → Request
  PutBack : (name : Digest) → Request
  ThrowAway : (name : Digest) → Request
  -- the highest number of a machine; and set it
  Highest : (machine : ℕ) → Request
  Raise : (machine : ℕ) → (number : ℕ) → Request
  -- give a day its name: these bytes are to lie under it
  NameDay : DayName → (file : List ℕ) → Request
  -- let a day go
  LetGo : DayName → Request
  -- the names in the list of a machine, and in the sweeper's; add a name to the sweeper's
  NamesOf : (machine : ℕ) → Request
  OwnNames : Request
  EnlistOwn : (name : Digest) → Request
  -- the bytes that lie under the name of a day
  ReadDay : DayName → Request
  -- what is kept of what the sweeper does; and keep this
  Kept : Request
  Keep : Sweep → Request

-- what it is told
pub data Answer : Type 0 where
  Done : Answer
  Told : Bool → Answer
  Bytes : Option (List ℕ) → Answer
  Number : ℕ → Answer
  Names : List Digest → Answer
  Sweeping : Sweep → Answer
  -- refused, or failed
  Refused : Refusal → Answer

-- what the results of the requests' methods answer
abbrev pub done : Result (Unit {0}) Refusal → Answer
done (Ok x) = Done
done (Err r) = Refused r

abbrev pub told : Result Bool Refusal → Answer
told (Ok b) = Told b
told (Err r) = Refused r

abbrev pub number : Result ℕ Refusal → Answer
number (Ok n) = Number n
number (Err r) = Refused r

abbrev pub bytes : Result (Option (Vec ℕ Global)) Refusal → Answer
bytes (Ok v) = Bytes (option_map vec_items v)
bytes (Err r) = Refused r

abbrev pub names : Result (Vec Digest Global) Refusal → Answer
names (Ok v) = Names (vec_items v)
names (Err r) = Refused r

abbrev pub sweeping : Result Sweep Refusal → Answer
sweeping (Ok x) = Sweeping x
sweeping (Err r) = Refused r
