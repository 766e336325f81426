-- The words of the answers.
-- Assumes nothing.
use Rattle.std.specs.Prelude.{ℕ, List, [], ◌∷◌, ◌++◌, length, codes, decimal, vec_items, vec_len}
use Rattle.cutting.specs.Refusals.{refusal_text}
use Rattle.digest.specs.Hex.{hex}
use Rattle.days.specs.Texts.{done_text}
use Rattle.sweeper.specs.Texts as swept
use Rattle.script.specs.Faults.{fault_text}
use Rattle.rehearsal.specs.declared.answer.Answer.{Answer}
use Rattle.rehearsal.specs.declared.answer.Answer.TheVariants as answer
use Rattle.rehearsal.specs.declared.line.LineFault.{LineFault}
use Rattle.rehearsal.specs.declared.unplayed.Unplayed.{Unplayed}
use Rattle.rehearsal.specs.declared.unplayed.Unplayed.TheVariants as unplayed
use Rattle.rehearsal.specs.Listings.{lines_text}
use Rattle.rehearsal.specs.Shows.{shown_text}

-- how many bytes there are, and their digits after a space, if there are any
abbrev pub digits_text : List ℕ → List ℕ
digits_text [] = []
digits_text (b ∷ bs) = codes " " ++ hex (b ∷ bs)

abbrev pub bytes_text : List ℕ → List ℕ
bytes_text bs = decimal (length bs) ++ digits_text bs

-- what is written for a step: a digest's digits; how many pieces there are and a line for each; what a machine or the sweeper has done; the bytes of a file; what is where
abbrev pub answer_text : Answer → List ℕ
answer_text (answer.Digest d) = hex d.bytes
answer_text (answer.Pieces v) = codes "pieces " ++ (decimal (vec_len v) ++ lines_text (vec_items v))
answer_text (answer.Done d) = done_text d
answer_text answer.LetGo = codes "let go"
answer_text (answer.File v) = bytes_text (vec_items v)
answer_text answer.Flipped = codes "flipped"
answer_text answer.Cut = codes "cut"
answer_text answer.Parted = codes "parted"
answer_text (answer.Swept d) = swept.done_text d
answer_text answer.Stopped = codes "stopped"
answer_text (answer.Shown s) = shown_text s

-- why a line is not played
abbrev pub unplayed_text : Unplayed → List ℕ
unplayed_text (unplayed.Fault f) = fault_text f
unplayed_text (unplayed.Refusal r) = refusal_text r

-- what is written for a line that is not played: its number and why
abbrev pub line_fault_text : LineFault → List ℕ
line_fault_text e = codes "line " ++ (decimal e.number ++ (codes ": " ++ unplayed_text e.why))
