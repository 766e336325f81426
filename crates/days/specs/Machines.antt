-- A machine.
-- Assumes nothing.
use Rattle.std.specs.Prelude.{ℕ, List, ◌∷◌, ◌++◌, [], Some, None, Option}
use Rattle.digest.specs.declared.value.Digest.{Digest}
use Rattle.dayfile.specs.Days.{Entry, files_of, names_of}
use Rattle.days.specs.declared.machine.Machine.{Machine}
use Rattle.days.specs.declared.making.Making.{Making}
use Rattle.days.specs.declared.making.Underway.{Underway}
use Rattle.days.specs.declared.making.Making.TheVariants.{Nothing, Day}

-- a day under way: its files so far; the pieces that were seen to for the next one, in their order; and its number once that is raised
pub record Work : Type 0 where
  pub files : List Entry
  pub seen : List Digest
  pub number : Option ℕ

-- all pieces that were seen to for a day
abbrev pub all_seen : Work → List Digest
all_seen w = names_of w.files ++ w.seen

-- what lies in memory of a day under way, between two steps
abbrev pub work_of : Underway → Work
work_of u = record { files = files_of u.day; seen = []; number = u.number }

-- what a machine makes: no day, or one
abbrev pub making : Making → Option Work
making Nothing = None
making (Day u) = Some (work_of u)

-- what this machine makes
abbrev pub makes : Machine → Option Work
makes m = making m.making

-- a day of which nothing is seen to yet
abbrev pub new_day : Work
new_day = record { files = []; seen = []; number = None }

-- a day for whose next file a piece more was seen to
abbrev pub with_piece : Digest → Work → Work
with_piece n w = record w { seen = w.seen ++ n ∷ [] }

-- a day with a file more, for whose next file nothing was seen to yet; and one for whose next file nothing counts as seen to
abbrev pub with_file : Entry → Work → Work
with_file e w = record w { files = w.files ++ e ∷ []; seen = [] }

abbrev pub forgetting : Work → Work
forgetting w = record w { seen = [] }

-- a day with its number
abbrev pub with_number : ℕ → Work → Work
with_number k w = record w { number = Some k }
