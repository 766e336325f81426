-- Which pieces are there, which are listed, and which a day has.
-- Assumes nothing.
use Rattle.std.specs.Prelude.{◌≡◌, ◌⊎◌, ℕ, ◌<◌, ◌≤◌, true, List, Some, None, Option, IsSome}
use Rattle.digest.specs.declared.value.Digest.{Digest}
use Rattle.digest.specs.Digests.{digest_of}
use Rattle.store.specs.declared.day.DayName.{DayName}
use Rattle.store.specs.State.{State, is_in, most_machines}
use Rattle.dayfile.specs.Entries.{Entry, names_of}
use Rattle.dayfile.specs.Stored.{HasFiles, IsDayOf}

-- what lies under a name is of that name
abbrev pub IsRight : Digest → Option (List ℕ) → Type 0
IsRight n (Some bytes) = digest_of bytes ≡ n
IsRight n None = ⊥

-- a piece is there: in its place or aside, with the right bytes
abbrev pub IsThere : State → Digest → Type 0
IsThere s n = IsRight n (s.place n) ⊎ IsRight n (s.aside n)

-- a name is in the list of a machine, or in the sweeper's
abbrev pub IsListed : State → Digest → Type 0
IsListed s n = ((i : ℕ) × (i < most_machines) × (s.listed (record { machine = i; name = n }) ≡ true)) ⊎ (s.own n ≡ true)

-- a day that can be found by its number: from 1 to the highest of its machine
pub record IsFound (s : State) (d : DayName) : Type 0 where
  pub machine : d.machine < most_machines
  pub first : 1 ≤ d.number
  pub last : d.number ≤ s.highest d.machine

-- such a day has this piece
pub record FoundHas (s : State) (n : Digest) : Type 0 where
  pub day : DayName
  pub files : List Entry
  pub found : IsFound s day
  pub is_there : HasFiles s day files
  pub has : is_in n (names_of files) ≡ true

-- what lies under the name of each such day is of its form, and all that these days have is there
pub record IsWhole (s : State) : Type 0 where
  pub forms : (d : DayName) (b : List ℕ) → IsFound s d → s.days d ≡ Some b → (es : List Entry) × IsDayOf d es b
  pub pieces : (n : Digest) → FoundHas s n → IsThere s n

-- a machine has a day in the store above this number
abbrev pub HasFinished : State → ℕ → ℕ → Type 0
HasFinished s i k = (n : ℕ) × (k < n) × (n ≤ s.highest i) × IsSome (s.days (record { machine = i; number = n }))
