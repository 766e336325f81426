-- What is answered to a frame.
-- Assumes nothing.
use Rattle.std.specs.Prelude.{List, ℕ, Option, Some, None, Ok, Err, Result}
use Rattle.std.specs.declared.alloc.AllocError.{AllocError}
use Rattle.store.specs.declared.day.DayName.{DayName}
use Rattle.dayfile.specs.Days.{Entry, files_of}
use Rattle.dayfile.specs.Stored.{IsDayOf}
use Rattle.readdays.specs.declared.answer.Answer.{Answer}
use Rattle.readdays.specs.declared.answer.Answer.TheVariants as answer
use Rattle.readdays.specs.Frames.{named}

-- of bytes under a name: the day whose file they are; or they are the file of no day of this name, or there is no name
abbrev pub IsAnswer : Option (DayName × List ℕ) → Answer → Type 0
IsAnswer (Some x) (answer.Day day) = IsDayOf x.0 (files_of day) x.1
IsAnswer (Some x) answer.Refused = (es : List Entry) → IsDayOf x.0 es x.1 → ⊥
IsAnswer None answer.Refused = Unit {0}
IsAnswer None (answer.Day day) = ⊥

-- that of what a frame names, where there is memory for it
abbrev pub Answers : List ℕ → Result Answer AllocError → Type 0
Answers frame (Ok a) = IsAnswer (named frame) a
Answers frame (Err e) = Unit {0}
