-- THE PROMISE. In every mixture of steps of any machines and the sweeper, with stops of any of them at any moment, with days let go and machines taken off the list, from an empty store on.
-- Assumes nothing.
use Rattle.std.specs.Prelude.{◌≡◌, ◌⊎◌, ℕ, ◌+◌, ◌<◌, ◌≤◌, true, false, List, ◌∷◌, length, Some, None, IsSome}
use Rattle.digest.specs.declared.value.Digest.{Digest}
use Rattle.digest.specs.Digests.{digest_of}
use Rattle.store.specs.declared.day.DayName.{DayName}
use Rattle.store.specs.Effects.{with_day}
use Rattle.store.specs.State.{State, is_in, last_number, most_names}
use Rattle.dayfile.specs.Entries.{Entry, names_of}
use Rattle.dayfile.specs.Form.{day_file}
use Rattle.dayfile.specs.Stored.{HasFiles, IsDayOf}
use Rattle.days.specs.Machines.{Work, all_seen, with_piece}
use Rattle.sweeper.specs.Pieces.{IsListed, IsRight, IsThere}
use Rattle.sweeper.specs.Sweepers.{puts, rests}
use Rattle.promise.specs.Runs.{PutsAside, Reached, Run, Through, WholeSweep}
use Rattle.promise.specs.System.{AreMachines, Step, World}

-- a kept day has this piece
abbrev pub DayHas : World → Digest → Type 0
DayHas w n = (d : DayName) × (es : List Entry) × HasFiles w.store d es × (is_in n (names_of es) ≡ true)

-- a machine on the list has seen to it for the day that it is making
abbrev pub MachineHas : World → Digest → Type 0
MachineHas w n = (i : ℕ) × (d : Work) × (w.store.machines i ≡ true) × (w.makes i ≡ Some d) × (is_in n (all_seen d) ≡ true)

-- and has added a file to that day that has it
abbrev pub MachineKeeps : World → Digest → Type 0
MachineKeeps w n = (i : ℕ) × (d : Work) × (w.store.machines i ≡ true) × (w.makes i ≡ Some d) × (is_in n (names_of d.files) ≡ true)

-- from one world to the next a machine sees to a piece
abbrev pub SeesTo : Digest → World → World → Type 0
SeesTo n v w = (i : ℕ) × (d : Work) × (v.makes i ≡ Some d) × (w.makes i ≡ Some (with_piece n d))

-- whatever is done from the beginning on, with any machines on the list, this is so of every world that comes of it; and of every step from such a world
abbrev pub Always : (World → Type 0) → Type 0
Always P = (ms : List ℕ) → AreMachines ms → (w : World) → Reached ms w → P w

abbrev pub EachStep : (World → World → Type 0) → Type 0
EachStep P = Always (λ v. (w : World) → Step v w → P v w)

-- 1. Every piece of every kept day is in its place or aside, with the right bytes: their digest is its name.
abbrev pub DaysAreWhole : Type 0
DaysAreWhole = Always (λ w. (n : Digest) → DayHas w n → IsThere w.store n)

-- What lies under the name of a kept day is the file of a day of that name.
abbrev pub DaysAreOfForm : Type 0
DaysAreOfForm = Always (λ w. (d : DayName) (b : List ℕ) → w.store.days d ≡ Some b → (es : List Entry) × IsDayOf d es b)

-- 2. So is every piece that a machine on the list has seen to for the day that it is making.
abbrev pub SeenIsThere : Type 0
SeenIsThere = Always (λ w. (n : Digest) → MachineHas w n → IsThere w.store n)

-- 3. Nothing is thrown away that a kept day has, or a day under way of a machine on the list, unless a right copy is in its place.
pub record ThrowsOnly (v w : World) : Type 0 where
  -- what leaves its place is aside then, or else a right copy takes its place
  pub from_place : (n : Digest) (b : List ℕ) → v.store.place n ≡ Some b → IsRight n (w.store.place n) ⊎ (w.store.aside n ≡ Some b)
  -- what is no longer aside is in its place then, or else a right copy is aside, or it is thrown away: then nobody has it, or a right copy was in its place and still is
  pub from_aside : (n : Digest) (b : List ℕ) → v.store.aside n ≡ Some b → IsRight n (w.store.aside n) ⊎ ((w.store.place n ≡ Some b) ⊎ (DayHas v n ⊎ MachineHas v n → IsRight n (v.store.place n) × IsRight n (w.store.place n)))

abbrev pub NothingIsLost : Type 0
NothingIsLost = EachStep ThrowsOnly

-- Nothing lies in a store that is not of its name.
abbrev pub AllIsRight : Type 0
AllIsRight = Always (λ w. (n : Digest) (b : List ℕ) → (w.store.place n ≡ Some b) ⊎ (w.store.aside n ≡ Some b) → digest_of b ≡ n)

-- 4. A day stays as it was made, byte for byte, until that very day is let go, and nothing else happens in that step.
abbrev pub DaysStay : Type 0
DaysStay = EachStep (λ v w. (d : DayName) (b : List ℕ) → v.store.days d ≡ Some b → (w.store.days d ≡ Some b) ⊎ (w ≡ record v { store = with_day d None v.store }))

-- No two days of a machine ever have one number: once a day had it, any day of that number is that day, and once it was let go there is none of that number again.
pub record OneForAll (u v w : World) : Type 0 where
  pub same : (d : DayName) (b c : List ℕ) → u.store.days d ≡ Some b → w.store.days d ≡ Some c → c ≡ b
  pub never_again : (d : DayName) (b : List ℕ) → u.store.days d ≡ Some b → v.store.days d ≡ None → w.store.days d ≡ None

abbrev pub NumbersAreUsedOnce : Type 0
NumbersAreUsedOnce = Always (λ u. (v w : World) → Run u v → Run v w → OneForAll u v w)

-- And a day that is new has a number above the highest that its machine had raised before, or the one that was raised for it already.
abbrev pub NumbersRise : Type 0
NumbersRise =
    Always
    (λ v. (w : World) → Run v w → (d : DayName) (b : List ℕ) → v.store.days d ≡ None → w.store.days d ≡ Some b →
    (v.store.highest d.machine < d.number) ⊎ ((x : Work) × (v.makes d.machine ≡ Some x) × (x.number ≡ Some d.number)))

-- A day that is new is what its machine made: it has the number that was raised for it, and just the files that were added to it; and the machine makes no day then.
pub record IsMade (d : DayName) (b : List ℕ) (v w : World) : Type 0 where
  pub work : Work
  pub makes : v.makes d.machine ≡ Some work
  pub number : work.number ≡ Some d.number
  pub file : b ≡ day_file d work.files
  pub done : w.makes d.machine ≡ None

abbrev pub DaysAreMade : Type 0
DaysAreMade = EachStep (λ v w. (d : DayName) (b : List ℕ) → v.store.days d ≡ None → w.store.days d ≡ Some b → IsMade d b v w)

-- So it lasts: whatever is done after a day has these files, it has just these as long as there is a day of its name, and each of their pieces is there.
abbrev pub DaysLast : Type 0
DaysLast =
    Always
    (λ v. (w : World) → Run v w → (d : DayName) (es : List Entry) → HasFiles v.store d es → IsSome (w.store.days d) →
    HasFiles w.store d es × ((n : Digest) → is_in n (names_of es) ≡ true → IsThere w.store n))

-- 5. A sweep spares what days have: whatever is left for the sweeper to put aside was in its place and in no day when it looked, and it has put aside ever since.
abbrev pub WasInNoDay : List ℕ → World → Digest → Type 0
WasInNoDay ms w n = (u v : World) × Reached ms u × (u.sweeper ≡ rests) × IsSome (u.store.place n) × (DayHas u n → ⊥) × Step u v × Through PutsAside (λ x y. Unit {0}) v w

abbrev pub SweepsSpare : Type 0
SweepsSpare = (ms : List ℕ) → AreMachines ms → (w : World) → Reached ms w → (n : Digest) (left : List Digest) → w.sweeper ≡ puts left → is_in n left ≡ true → WasInNoDay ms w n

-- What it puts aside moves, it is not copied: it is no longer in its place then. And nothing else ever comes to lie aside: what does is what lay in its place.
pub record Moves (v w : World) : Type 0 where
  pub moved : (n : Digest) (left : List Digest) → v.sweeper ≡ puts (n ∷ left) → w.sweeper ≡ puts left → (w.store.place n ≡ None) × (IsSome (v.store.place n) → w.store.aside n ≡ v.store.place n)
  pub only : (n : Digest) (b : List ℕ) → w.store.aside n ≡ Some b → (v.store.aside n ≡ Some b) ⊎ ((left : List Digest) × (v.sweeper ≡ puts (n ∷ left)) × (w.sweeper ≡ puts left) × (v.store.place n ≡ Some b))

abbrev pub AsideIsMoved : Type 0
AsideIsMoved = EachStep Moves

-- the lists have room for all of these names that the sweeper has not listed, and whatever is in its place, and neither in a day nor in a file that a machine on the list has added to one, is one of these or listed by it
pub record HasRoom (ns : List Digest) (w : World) : Type 0 where
  pub all : (n : Digest) → IsSome (w.store.place n) → w.store.own n ≡ false → (DayHas w n → ⊥) → (MachineKeeps w n → ⊥) → is_in n ns ≡ true
  pub others : List Digest
  pub rest : (n : Digest) → is_in n ns ≡ true → w.store.own n ≡ false → is_in n others ≡ true
  pub room : w.store.names + length others ≤ most_names

-- Lists that are not more than half full have that room, even for all names that are listed.
abbrev pub HalfFullHasRoom : Type 0
HalfFullHasRoom = Always (λ w. w.store.names + w.store.names ≤ most_names → (ns : List Digest) × ((n : Digest) → IsListed w.store n → is_in n ns ≡ true) × HasRoom ns w)

-- each machine on the list can raise so many numbers yet
abbrev pub HaveNumbers : ℕ → State → Type 0
HaveNumbers k s = (i : ℕ) → s.machines i ≡ true → s.highest i + k ≤ last_number

-- 6. What nobody has can be got rid of, all of it. From every world there is a way on which every day stays, no machine leaves the list, and each on the list finishes the day that it is making, and at whose end nothing is aside and nothing in its place but what days have.
pub record Swept (u w : World) : Type 0 where
  pub run : Run u w
  pub rests : w.sweeper ≡ rests
  pub nothing_aside : (n : Digest) → w.store.aside n ≡ None
  pub in_place : (n : Digest) → IsSome (w.store.place n) → DayHas w n
  pub days : (d : DayName) (b : List ℕ) → u.store.days d ≡ Some b → w.store.days d ≡ Some b
  pub machines : (i : ℕ) → w.store.machines i ≡ u.store.machines i
  -- what a machine on the list is making becomes a day, and that day is new
  pub finished : (i : ℕ) (x : Work) → u.store.machines i ≡ true → u.makes i ≡ Some x → (k : ℕ) × (u.store.days (record { machine = i; number = k }) ≡ None) × (w.store.days (record { machine = i; number = k }) ≡ Some (day_file (record { machine = i; number = k }) x.files))
  -- no day has a piece then that no day had before, nor a file that a machine on the list had added to one
  pub no_other : (n : Digest) → DayHas w n → DayHas u n ⊎ MachineKeeps u n

-- It takes room in the lists and two numbers of each machine on the list. The room for the same names is there at its end, too, and so are all further numbers: all can go again and again.
abbrev pub AllCanGo : Type 0
AllCanGo = Always (λ u. (k : ℕ) (ns : List Digest) → HasRoom ns u → HaveNumbers (k + 2) u.store → (w : World) × Swept u w × HasRoom ns w × HaveNumbers k w.store)

-- More: a whole sweep leaves nothing aside, and nothing in its place that no day has when it looks nor whenever it decides, and that no machine sees to from the look to the rest.
abbrev pub SweepsAreWhole : Type 0
SweepsAreWhole =
    Always
    (λ u. (v : World) →
    (WholeSweep (λ w. Unit {0}) (λ x y. Unit {0}) u v → (n : Digest) → v.store.aside n ≡ None)
    × ((n : Digest) → WholeSweep (λ w. DayHas w n → ⊥) (λ x y. SeesTo n x y → ⊥) u v → v.store.place n ≡ None))
