-- Lines that are read one after the other.
-- Assumes nothing.
use Rattle.std.proofs.Common.{◌≡◌, ℕ, ◌+◌, ◌<◌, ◌≤◌, ◌==◌, List, [], ◌∷◌, length, Option, Some, None, Ok, Err, Result, Bor, refl, sym, ap, ◌∙◌, arith}
use Rattle.std.specs.Option.{IfSome, MatchOption}
use Rattle.std.specs.List.{slice_split}
use Rattle.layout.specs.declared.fault.LineFault.{LineFault}
use Rattle.layout.specs.declared.fault.MachinesFault.{MachinesFault}
use Rattle.layout.specs.declared.fault.MachinesFault.TheVariants.{Line, NoEnd, NoMemory}
use Rattle.layout.specs.Lines.{line_of}
use Rattle.layout.specs.Machines.{Reading, machines_in, unread, whole, with_line, with_lines}
use Rattle.layout.specs.Reads.{ReadsMachines, TakesIn}

abbrev pub cut : List ℕ → List (List ℕ)
cut text = slice_split (λ c. c == 10) text

-- the lines that are left
abbrev pub lines_of : Option (Bor (List ℕ)) → List (List ℕ)
lines_of None = []
lines_of (Some text) = cut text.now

-- no more lines are left than this
abbrev pub left_in : Option (Bor (List ℕ)) → ℕ
left_in None = 0
left_in (Some text) = length text.now + 1

-- a text is its first line and the others
pub first_and_left : (text line : List ℕ) (after : Option (Bor (List ℕ))) → MatchOption after (cut text ≡ line ∷ []) (λ a. cut text ≡ line ∷ cut a.now) → cut text ≡ line ∷ lines_of after
first_and_left text line None e = e
first_and_left text line (Some a) e = e

-- a line that is right
pub goes_on : (r s : Reading) (n : ℕ) (text line : List ℕ) (after : Option (Bor (List ℕ))) (total : Result Reading MachinesFault) → with_line r (line_of line) ≡ Ok s → cut text ≡ line ∷ lines_of after
    → with_lines r n (cut text) ≡ total → with_lines s (n + 1) (lines_of after) ≡ total
unfolding with_lines
goes_on r s n text line after total ok parts so_far =
    let e : with_lines r n (cut text) ≡ with_lines s (n + 1) (lines_of after) = ap (with_lines r n) parts ∙ rw ok refl in
    sym e ∙ so_far

-- a line with a fault
stops : (r : Reading) (n : ℕ) (text line : List ℕ) (after : Option (Bor (List ℕ))) (total : Result Reading MachinesFault) (f : LineFault) → with_line r (line_of line) ≡ Err f → cut text ≡ line ∷ lines_of after
    → with_lines r n (cut text) ≡ total → total ≡ Err (Line (n + 1) f)
unfolding with_lines
stops r n text line after total f bad parts so_far =
    let e : with_lines r n (cut text) ≡ Err (Line (n + 1) f) = ap (with_lines r n) parts ∙ rw bad refl in
    sym so_far ∙ e

pub refused : (r s : Reading) (n : ℕ) (all text line : List ℕ) (after : Option (Bor (List ℕ))) (f : MachinesFault) → TakesIn r (n + 1) (line_of line) s (Err f) → cut text ≡ line ∷ lines_of after
    → with_lines r n (cut text) ≡ with_lines unread 0 (cut all) → ReadsMachines all (Err f)
refused r s n all text line after NoMemory why parts so_far = tt
refused r s n all text line after NoEnd why parts so_far = absurd why
refused r s n all text line after (Line m f) (same, bad) parts so_far =
    ap whole (stops r n text line after (with_lines unread 0 (cut all)) f bad parts so_far) ∙ ap (λ (k : ℕ). Err (Line k f)) (sym same)

-- no line is left
pub is_done : (r : Reading) (n : ℕ) (all : List ℕ) (rest : Option (Bor (List ℕ))) → rest ≡ None → with_lines r n (lines_of rest) ≡ with_lines unread 0 (cut all) → machines_in all ≡ whole (Ok r)
unfolding with_lines
is_done r n all rest none so_far =
    let e : with_lines r n (lines_of rest) ≡ Ok r = ap (λ (o : Option (Bor (List ℕ))). with_lines r n (lines_of o)) none in
    ap whole (sym so_far ∙ e)

-- fewer lines are left
pub left_less : (text : List ℕ) (after : Option (Bor (List ℕ))) (n most : ℕ) → IfSome after (λ a. length a.now < length text) → n + (length text + 1) ≤ most → n + 1 + left_in after ≤ most
left_less text None n most less fits = omega arith
left_less text (Some a) n most less fits = omega (arith, less)
