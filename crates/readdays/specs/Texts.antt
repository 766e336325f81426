-- The answer to a frame, in words.
-- Assumes nothing.
use Rattle.std.specs.Prelude.{ℕ, List, ◌++◌, length, codes, decimal}
use Rattle.std.specs.List.{flat_map}
use Rattle.digest.specs.Hex.{hex}
use Rattle.store.specs.Texts.{names_text}
use Rattle.dayfile.specs.Days.{Entry, files_of}
use Rattle.readdays.specs.declared.answer.Answer.{Answer}
use Rattle.readdays.specs.declared.answer.Answer.TheVariants as answer

-- a file: the digits of its path, how many bytes it has, how many pieces, and the digits of their names
abbrev pub file_text : Entry → List ℕ
file_text e = codes " " ++ (hex e.path ++ (codes " " ++ (decimal e.length ++ (codes " " ++ (decimal (length e.pieces) ++ names_text e.pieces)))))

-- a day: each of its files, in order
abbrev pub day_text : List Entry → List ℕ
day_text es = codes "day" ++ flat_map file_text es

abbrev pub answer_text : Answer → List ℕ
answer_text answer.Refused = codes "refused"
answer_text (answer.Day day) = day_text (files_of day)
