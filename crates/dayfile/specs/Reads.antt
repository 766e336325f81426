-- What reading a day file answers.
-- Assumes nothing.
use Rattle.std.specs.Prelude.{◌≡◌, ℕ, List, ◌∷◌, ◌++◌, Ok, Err, Some, Option, Result, Vec, vec_items}
use Rattle.std.specs.declared.alloc.Global.{Global}
use Rattle.std.specs.Borrow.{Bor}
use Rattle.std.specs.Int.{w32, to_be_bytes}
use Rattle.cutting.specs.declared.refusal.Refusal.{Refusal}
use Rattle.digest.specs.Digests.{digest_of}
use Rattle.store.specs.declared.day.DayName.{DayName}
use Rattle.dayfile.specs.declared.day.Day.{Day}
use Rattle.dayfile.specs.Days.{Entry, files_of, names_of}
use Rattle.dayfile.specs.Stored.{IsDayOf}
use Rattle.digest.specs.declared.value.Digest.{Digest}
use Rattle.dayfile.specs.Limits.{AreFiles}
use Rattle.dayfile.specs.Reading.{Fails}

-- the bytes are these and their digest; or there are no such
abbrev pub IsSigned : List ℕ → Result (Bor (List ℕ)) Refusal → Type 0
IsSigned bytes (Ok b) = bytes ≡ b.now ++ (digest_of b.now).bytes
IsSigned bytes (Err r) = Fails r ((b : List ℕ) → bytes ≡ b ++ (digest_of b).bytes → ⊥)

-- how a day file of this name begins
abbrev pub head : DayName → List ℕ
head d = 68 ∷ d.machine ∷ to_be_bytes w32 d.number

-- the bytes begin so, and these follow; or they do not
abbrev pub BeginsAs : DayName → List ℕ → Result (Bor (List ℕ)) Refusal → Type 0
BeginsAs d bytes (Ok rest) = bytes ≡ head d ++ rest.now
BeginsAs d bytes (Err r) = Fails r ((rest : List ℕ) → bytes ≡ head d ++ rest → ⊥)

-- the files that are read make a day; or there are none that do
abbrev pub MakesDay : Result (Day × Bor (List ℕ)) Refusal → Option (List Entry × List ℕ) → Type 0
MakesDay (Ok x) read = read ≡ Some (files_of x.0, x.1.now)
MakesDay (Err r) read = Fails r ((es : List Entry) (rest : List ℕ) → read ≡ Some (es, rest) → AreFiles es → ⊥)

-- why bytes are not read as the file of a day of this name: there is no memory, or they are the file of none
abbrev pub NotRead : DayName → List ℕ → Refusal → Type 0
NotRead d bytes r = Fails r ((es : List Entry) → IsDayOf d es bytes → ⊥)

-- the day whose file the bytes are
abbrev pub Reads : DayName → List ℕ → Result Day Refusal → Type 0
Reads d bytes (Ok day) = IsDayOf d (files_of day) bytes
Reads d bytes (Err r) = NotRead d bytes r

-- the names of all pieces of its files, in order
abbrev pub ReadsNames : DayName → List ℕ → Result (Vec Digest Global) Refusal → Type 0
ReadsNames d bytes (Ok v) = (es : List Entry) × IsDayOf d es bytes × (vec_items v ≡ names_of es)
ReadsNames d bytes (Err r) = NotRead d bytes r
