-- What a whole day, and a file that is had back, are.
-- Assumes nothing.
use Rattle.std.specs.Prelude.{◌≡◌, ◌≢◌, ◌⊎◌, ℕ, ◌<◌, true, List, [], ◌∷◌, length, map, Contains, Some, None, Ok, Err, Option, Result, Vec, vec_items, slice_index_or}
use Rattle.std.specs.List.{AllByRecursion, concat}
use Rattle.std.specs.declared.alloc.Global.{Global}
use Rattle.cutting.specs.declared.refusal.Refusal.{Refusal}
use Rattle.cutting.specs.declared.refusal.Refusal.TheVariants.{NoMemory}
use Rattle.cutting.specs.Rule.{pieces}
use Rattle.digest.specs.declared.value.Digest.{Digest}
use Rattle.digest.specs.Digests.{digest_of}
use Rattle.store.specs.declared.day.DayName.{DayName}
use Rattle.store.specs.declared.piece.Spot.{Spot}
use Rattle.store.specs.Asking.{Doing}
use Rattle.store.specs.Requests.{Read, ReadDay, Bytes}
use Rattle.store.specs.State.{State, is_in}
use Rattle.dayfile.specs.Entries.{Entry, names_of}
use Rattle.dayfile.specs.Stored.{HasFiles, IsDayOf}
use Rattle.days.specs.declared.done.Done.{Done}
use Rattle.days.specs.declared.done.Done.TheVariants.{Named}
use Rattle.days.specs.Backs.{Backs}
use Rattle.days.specs.Machines.{Work}
use Rattle.days.specs.Promise.{file_entry}
use Rattle.days.specs.Sources.{Giving}
use Rattle.days.specs.System.{Within, World, world}
use Rattle.days.specs.Wholes.{MakesDay}

-- a source gives these files, each by its path and its bytes, and then no more
abbrev pub Gives : {F : Type 0} → Giving F → F → List (List ℕ × List ℕ) → F → Type 0
Gives gives x [] y = gives x (Ok None) y
Gives {F} gives x (f ∷ fs) y = (z : F) × gives x (Ok (Some f)) z × Gives gives z fs y

-- the files of a day that is made of these
abbrev pub entries : List (List ℕ × List ℕ) → List Entry
entries fs = map (λ f. file_entry f.0 f.1) fs

-- A whole day that is made has just the files that were given, whole; and where none is made, no day is named.
pub record WholeDays {S F : Type 0} (does : Doing S) (gives : Giving F) (holds : S → State) : Type 0 where
  pub made : (i : ℕ) (old new : Option Work) (s t : S) (x y : F) (d : Done) → MakesDay does gives i old s x (Ok d) new t y →
      (k : ℕ) × (d ≡ Named k) × (fs : List (List ℕ × List ℕ)) × Gives gives x fs y × HasFiles (holds t) (record { machine = i; number = k }) (entries fs)
  pub not_made : (i : ℕ) (old new : Option Work) (s t : S) (x y : F) (r : Refusal) → MakesDay does gives i old s x (Err r) new t y → ((holds t).days ≡ (holds s).days) × ((new ≡ old) ⊎ (new ≡ None))

-- Making a whole day is some steps of the system, whether it is named or not.
abbrev pub WholeDaysAreSteps : {S F : Type 0} → Doing S → Giving F → (S → State) → Type 0
WholeDaysAreSteps {S} {F} does gives holds =
    (w : World) (i : ℕ) (s t : S) (x y : F) (a : Result Done Refusal) (new : Option Work) → w.store ≡ holds s → MakesDay does gives i (w.makes i) s x a new t y → (n : ℕ) × Within n w (world (holds t) i new w)

-- at some moment a store told that this lies under its own digest, in its place or aside
abbrev pub IsTold : {S : Type 0} → Doing S → List ℕ → Type 0
IsTold {S} does p = (s t : S) × (spot : Spot) × does s (Read spot (digest_of p)) (Bytes (Some p)) t

-- These bytes are joined of strings that the store told, which have, in order, the names that the day lists for the file of this path; and the day's file is what the store told first.
pub record IsListed {S : Type 0} (does : Doing S) (s : S) (d : DayName) (path bytes : List ℕ) : Type 0 where
  pub file : List ℕ
  pub after : S
  pub files : List Entry
  pub entry : Entry
  pub parts : List (List ℕ)
  pub told : does s (ReadDay d) (Bytes (Some file)) after
  pub day : IsDayOf d files file
  pub has : Contains files entry
  pub path_is : entry.path ≡ path
  pub joined : concat parts ≡ bytes
  pub names : map digest_of parts ≡ entry.pieces
  pub each : AllByRecursion (IsTold does) parts
  pub length_is : length bytes ≡ entry.length

-- Whatever a store answers, a file that is had back is so.
abbrev pub BacksAreListed : {S : Type 0} → Doing S → Type 0
BacksAreListed {S} does = (d : DayName) (path : List ℕ) (s t : S) (v : Vec ℕ Global) → Backs does d path s (Ok v) t → IsListed does s d path (vec_items v)

-- right bytes lie in the place of a name, or aside
abbrev pub LiesRight : State → Digest → Type 0
LiesRight s n = (b : List ℕ) × ((s.place n ≡ Some b) ⊎ (s.aside n ≡ Some b)) × (digest_of b ≡ n)

-- Two different strings with one SHA-256 are at hand: a piece of this file, and what lies in a store under its name.
pub record Clash (s : State) (file : List ℕ) : Type 0 where
  pub place : ℕ
  pub within : place < length (pieces file)
  pub other : List ℕ
  pub lies : (s.place (digest_of other) ≡ Some other) ⊎ (s.aside (digest_of other) ≡ Some other)
  pub same : digest_of other ≡ digest_of (slice_index_or (pieces file) place [])
  pub differ : other ≢ slice_index_or (pieces file) place []

-- a file is given back to the last byte, unless there is no memory; or else there is a clash
abbrev pub GivenBack : State → List ℕ → Result (Vec ℕ Global) Refusal → Type 0
GivenBack s file (Ok v) = (vec_items v ≡ file) ⊎ Clash s file
GivenBack s file (Err r) = (r ≡ NoMemory) ⊎ Clash s file

-- Where a day has this file, and all its pieces lie there, that is given back, and nothing is changed by it.
pub record FilesComeBack {S : Type 0} (does : Doing S) (holds : S → State) : Type 0 where
  pub given : (d : DayName) (path file : List ℕ) (es : List Entry) (s t : S) (a : Result (Vec ℕ Global) Refusal) → HasFiles (holds s) d es → Contains es (file_entry path file) →
      ((n : Digest) → is_in n (names_of es) ≡ true → LiesRight (holds s) n) → Backs does d path s a t → GivenBack (holds s) file a
  pub unchanged : (d : DayName) (path : List ℕ) (s t : S) (a : Result (Vec ℕ Global) Refusal) → Backs does d path s a t → holds t ≡ holds s
