-- DAYS GIVE BACK THEIR FILES. To the last byte, at every later moment of every mixture of steps, as long as the day is kept; or else two different strings with one SHA-256 are at hand, or there is no memory to hand the file out.
-- Assumes nothing.
use Rattle.std.specs.Prelude.{◌≡◌, ℕ, List, Contains, Ok, Option, Result, Vec, IsSome}
use Rattle.std.specs.declared.alloc.Global.{Global}
use Rattle.cutting.specs.declared.refusal.Refusal.{Refusal}
use Rattle.store.specs.declared.day.DayName.{DayName}
use Rattle.store.specs.Asking.{Doing}
use Rattle.store.specs.State.{State}
use Rattle.dayfile.specs.Entries.{Entry}
use Rattle.dayfile.specs.Stored.{HasFiles}
use Rattle.days.specs.declared.done.Done.{Done}
use Rattle.days.specs.declared.done.Done.TheVariants.{Named}
use Rattle.days.specs.Backs.{Backs}
use Rattle.days.specs.Files.{GivenBack, Gives, entries}
use Rattle.days.specs.Machines.{Work}
use Rattle.days.specs.Promise.{file_entry}
use Rattle.days.specs.Sources.{Giving}
use Rattle.days.specs.System.{put}
use Rattle.days.specs.Wholes.{MakesDay}
use Rattle.promise.specs.Runs.{Reached, Run}
use Rattle.promise.specs.System.{AreMachines, World}

-- from a store that holds what this world does, whatever is answered to the question for this file of a day gives the file back
abbrev pub ComesBack : {S : Type 0} → Doing S → (S → State) → World → DayName → List ℕ → List ℕ → Type 0
ComesBack {S} does holds w d path file = (s t : S) (a : Result (Vec ℕ Global) Refusal) → w.store ≡ holds s → Backs does d path s a t → GivenBack (holds s) file a

-- A day that once lists a file, cut and named as its bytes are, gives it back as long as it is kept.
abbrev pub ListedFilesComeBack : {S : Type 0} → Doing S → (S → State) → Type 0
ListedFilesComeBack does holds =
    (ms : List ℕ) → AreMachines ms → (v w : World) → Reached ms v → Run v w → (d : DayName) (es : List Entry) (path file : List ℕ) → HasFiles v.store d es → Contains es (file_entry path file) → IsSome (w.store.days d) → ComesBack does holds w d path file

-- the world after machine i has made a whole day, or not
abbrev pub after : State → ℕ → Option Work → World → World
after s i new v = record { store = s; makes = put i new v.makes; sweeper = v.sweeper }

-- A day that is made of the files that a source gives has just these, and gives back each of them, under its path, as long as it is kept.
abbrev pub MadeDaysComeBack : {S F : Type 0} → Doing S → Giving F → (S → State) → Type 0
MadeDaysComeBack {S} {F} does gives holds =
    (ms : List ℕ) → AreMachines ms → (v : World) → Reached ms v → (i : ℕ) (s t : S) (x y : F) (d : Done) (new : Option Work) → v.store ≡ holds s → MakesDay does gives i (v.makes i) s x (Ok d) new t y →
    (k : ℕ) × (d ≡ Named k) × (fs : List (List ℕ × List ℕ)) × Gives gives x fs y × HasFiles (holds t) (record { machine = i; number = k }) (entries fs)
    × ((w : World) → Run (after (holds t) i new v) w → IsSome (w.store.days (record { machine = i; number = k })) → (f : List ℕ × List ℕ) → Contains fs f → ComesBack does holds w (record { machine = i; number = k }) f.0 f.1)
