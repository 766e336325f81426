-- Refusals: the number of each, its words, and which one is given where several fit.
-- Assumes nothing.
use Rattle.std.specs.Prelude.{ℕ, cond, List, ◌++◌, Some, None, codes, decimal, Option, nat_le}
use Rattle.std.specs.Option.{unwrap_or}
use Rattle.cutting.specs.declared.refusal.Refusal.{Refusal}
use Rattle.cutting.specs.declared.refusal.Refusal.TheVariants.{FileTooLong, PieceTooLong, PieceEmpty, BadPath, PathNotAbove, TooManyFiles, Unknown, BadDay, DayIsThere, MakesDay, MakesNone, HasNumber, HasNoNumber, NotAtThatPoint, Unfinished, TooManyNames, LastNumber, NoMemory, ReadOrWrite}

-- the number of a refusal; want of memory and a failed read or write have none
abbrev pub number_of : Refusal → Option ℕ
number_of FileTooLong = Some 1
number_of PieceTooLong = Some 1
number_of PieceEmpty = Some 1
number_of BadPath = Some 1
number_of PathNotAbove = Some 1
number_of TooManyFiles = Some 1
number_of Unknown = Some 1
number_of BadDay = Some 2
number_of DayIsThere = Some 2
number_of MakesDay = Some 3
number_of MakesNone = Some 3
number_of HasNumber = Some 3
number_of HasNoNumber = Some 3
number_of NotAtThatPoint = Some 4
number_of Unfinished = Some 4
number_of TooManyNames = Some 5
number_of LastNumber = Some 6
number_of NoMemory = None
number_of ReadOrWrite = None

-- the place of a refusal among others: that of its number, or else after all numbers
abbrev pub rank : Refusal → ℕ
rank r = unwrap_or (number_of r) 7

-- where several refusals fit, the lowest number wins; one without a number comes after all that have one, and of equals the first is given
abbrev pub lowest : Refusal → Refusal → Refusal
lowest a b = cond (nat_le (rank a) (rank b)) a b

-- what a refusal says
abbrev pub words : Refusal → List ℕ
words FileTooLong = codes "a file has at most 16777216 bytes"
words PieceTooLong = codes "a piece has at most 65536 bytes"
words PieceEmpty = codes "a piece has at least one byte"
words BadPath = codes "a path has from 1 to 255 bytes"
words PathNotAbove = codes "a path must be above the one before it"
words TooManyFiles = codes "a day has at most 4096 files"
words Unknown = codes "there is no such machine, day or path"
words BadDay = codes "a day is damaged or incomplete"
words DayIsThere = codes "there is a day of that number already"
words MakesDay = codes "the machine already makes a day"
words MakesNone = codes "the machine makes no day"
words HasNumber = codes "the day has its number already, and is to be named or broken off"
words HasNoNumber = codes "the day has no number yet, which is to be raised first"
words NotAtThatPoint = codes "the sweeper is not at that point"
words Unfinished = codes "a machine has finished no day since"
words TooManyNames = codes "the lists have at most 262144 names"
words LastNumber = codes "a day number is at most 4294967295"
words NoMemory = codes "there is not enough memory"
words ReadOrWrite = codes "a read or a write failed"

-- with the number before it, where there is one
abbrev pub numbered : Option ℕ → List ℕ → List ℕ
numbered (Some n) w = codes "refused by " ++ (decimal n ++ (codes ": " ++ w))
numbered None w = w

-- a refusal as it is written
abbrev pub refusal_text : Refusal → List ℕ
refusal_text r = numbered (number_of r) (words r)
