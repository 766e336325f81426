-- What `show` answers.
-- Assumes nothing.
use Rattle.std.specs.Prelude.{◌≡◌, ℕ, Bool, cond, List, [], ◌∷◌, ◌++◌, map, Some, None, Option, codes, decimal, Vec, vec_items}
use Rattle.std.specs.declared.alloc.Global.{Global}
use Rattle.std.specs.List.{flat_map}
use Rattle.std.specs.Option.{option_map}
use Rattle.digest.specs.declared.value.Digest.{Digest}
use Rattle.digest.specs.Hex.{hex}
use Rattle.store.specs.declared.contents.ListedDay.{ListedDay}
use Rattle.store.specs.declared.day.DayName.{DayName}
use Rattle.store.specs.Contents.{ListsDays, ListsNames, ListsOwn, ListsPieces}
use Rattle.store.specs.State.{State}
use Rattle.store.specs.Texts.{listing_text, lying_text, names_text}
use Rattle.dayfile.specs.Entries.{Entry, names_of}
use Rattle.dayfile.specs.Stored.{IsDayOf}
use Rattle.days.specs.declared.machine.Machine.{Machine}
use Rattle.days.specs.Machines.{Work, makes}
use Rattle.sweeper.specs.Sweepers.{Sweeping, anew, ends, noted_of, puts, rests, waits}
use Rattle.rehearsal.specs.declared.shown.Shown.{Shown}
use Rattle.rehearsal.specs.declared.shown.ShownSweeper.{ShownSweeper}
use Rattle.rehearsal.specs.declared.shown.ShownSweeper.TheVariants.{Rests, PutsAside, Waits, Ends, DecidesAnew}
use Rattle.rehearsal.specs.Numbering.{machine_numbers}
use Rattle.rehearsal.specs.declared.shown.KeptDay.{KeptDay}
use Rattle.rehearsal.specs.declared.shown.ShownDay.{ShownDay}
use Rattle.rehearsal.specs.declared.shown.ShownMachine.{ShownMachine}

-- a day that a machine makes: the names of the pieces of its files, in their order, and its number once that is raised
pub record Made : Type 0 where
  pub pieces : List Digest
  pub number : Option ℕ

-- a machine: its number, its highest number for a day, whether it is on the list, what it makes
pub record Seen : Type 0 where
  pub number : ℕ
  pub highest : ℕ
  pub on_list : Bool
  pub makes : Option Made

abbrev pub shown_day : ShownDay → Made
shown_day d = record { pieces = vec_items d.pieces; number = d.number }

abbrev pub made : Work → Made
made w = record { pieces = names_of w.files; number = w.number }

-- as it is shown, and as it is
abbrev pub shown_machine : ShownMachine → Seen
shown_machine m = record { number = m.number; highest = m.highest; on_list = m.on_list; makes = option_map shown_day m.makes }

abbrev pub seen : State → Machine → Seen
seen s m = record { number = m.number; highest = s.highest m.number; on_list = s.machines m.number; makes = option_map made (makes m) }

-- the sweeper as it is shown, by what it does
abbrev pub ShowsSweeper : Sweeping → ShownSweeper → Type 0
ShowsSweeper rests Rests = Unit {0}
ShowsSweeper (puts left) (PutsAside v) = vec_items v ≡ left
ShowsSweeper (waits h) (Waits ns) = ns ≡ map (noted_of h) machine_numbers
ShowsSweeper (ends back away) (Ends v w) = (vec_items v ≡ back) × (vec_items w ≡ away)
ShowsSweeper anew DecidesAnew = Unit {0}
ShowsSweeper _ _ = ⊥

-- what is shown of bytes under the name of a day: the names of the pieces of its files, in their order, if they are the file of a day of that name; or else that they are damaged
abbrev pub ShowsNames : DayName → List ℕ → Option (Vec Digest Global) → Type 0
ShowsNames d b (Some v) = (es : List Entry) × IsDayOf d es b × (vec_items v ≡ names_of es)
ShowsNames d b None = (es : List Entry) → IsDayOf d es b → ⊥

abbrev pub ShowsDay : ListedDay → KeptDay → Type 0
ShowsDay x y = (y.name ≡ x.name) × ShowsNames x.name (vec_items x.file) y.pieces

-- so is it with each day
unfoldable pub ShowsKept : List ListedDay → List KeptDay → Type 0
ShowsKept [] [] = Unit {0}
ShowsKept (x ∷ xs) (y ∷ ys) = ShowsDay x y × ShowsKept xs ys
ShowsKept _ _ = ⊥

-- and these are all days of the store, in order
abbrev pub ShowsDays : (DayName → Option (List ℕ)) → List KeptDay → Type 0
ShowsDays days ys = (xs : List ListedDay) × ListsDays days xs × ShowsKept xs ys

-- all that the store has, the machines, one after the other, and the sweeper
pub record Shows (s : State) (ms : List Machine) (w : Sweeping) (x : Shown) : Type 0 where
  pub place : ListsPieces s.place (vec_items x.place)
  pub aside : ListsPieces s.aside (vec_items x.aside)
  pub listed : ListsNames s.listed (vec_items x.listed)
  pub own : ListsOwn s.own (vec_items x.own)
  pub days : ShowsDays s.days (vec_items x.days)
  pub machines : map shown_machine (vec_items x.machines) ≡ map (seen s) ms
  pub sweeper : ShowsSweeper w x.sweeper

-- a day under way: whether its number is raised, and its pieces; or no day
abbrev pub day_begun : Option ℕ → List ℕ
day_begun None = codes "makes"
day_begun (Some k) = codes "names " ++ decimal k

abbrev pub making_text : Option ShownDay → List ℕ
making_text None = codes "none"
making_text (Some d) = day_begun d.number ++ names_text (vec_items d.pieces)

-- a machine that is off the list is shown so, whatever it made
abbrev pub machine_text : ShownMachine → List ℕ
machine_text m = codes "machine " ++ (decimal m.number ++ (codes " " ++ (decimal m.highest ++ (codes " " ++ cond m.on_list (making_text m.makes) (codes "parted")))))

-- what the sweeper does
abbrev pub turns_text : List Digest → List Digest → List ℕ
turns_text back away = codes "sweeper ends, back" ++ (names_text back ++ (codes ", away" ++ names_text away))

abbrev pub sweeper_text : ShownSweeper → List ℕ
sweeper_text Rests = codes "sweeper rests"
sweeper_text (PutsAside v) = codes "sweeper puts aside" ++ names_text (vec_items v)
sweeper_text (Waits ns) = codes "sweeper waits" ++ flat_map (λ n. codes " " ++ decimal n) ns
sweeper_text (Ends v w) = turns_text (vec_items v) (vec_items w)
sweeper_text DecidesAnew = codes "sweeper is to decide anew"

-- a day of the store
abbrev pub kept_names : Option (Vec Digest Global) → List ℕ
kept_names (Some v) = names_text (vec_items v)
kept_names None = codes " damaged"

abbrev pub kept_text : KeptDay → List ℕ
kept_text d = decimal d.name.machine ++ (codes " " ++ (decimal d.name.number ++ kept_names d.pieces))

-- a line for each of a list
abbrev pub lines : {A : Type 0} → List ℕ → (A → List ℕ) → List A → List ℕ
lines name text xs = flat_map (λ x. name ++ (text x ++ codes "\n")) xs

-- a line for each machine, the last without a newline
abbrev pub machines_text : List ShownMachine → List ℕ
machines_text [] = []
machines_text (m ∷ ms) = machine_text m ++ flat_map (λ x. codes "\n" ++ machine_text x) ms

-- the pieces, the names in lists and the days, and all of it
abbrev pub pieces_text : Shown → List ℕ
pieces_text s = lines (codes "place ") lying_text (vec_items s.place) ++ lines (codes "aside ") lying_text (vec_items s.aside)

abbrev pub lists_text : Shown → List ℕ
lists_text s =
    lines (codes "listed ") listing_text (vec_items s.listed) ++ (lines (codes "listed sweeper ") (λ n. hex n.bytes) (vec_items s.own) ++ lines (codes "day ") kept_text (vec_items s.days))

abbrev pub shown_text : Shown → List ℕ
shown_text s = pieces_text s ++ (lists_text s ++ (machines_text (vec_items s.machines) ++ (codes "\n" ++ sweeper_text s.sweeper)))
