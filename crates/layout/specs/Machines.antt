-- The list of machines: what is read of its lines.
-- Assumes nothing.
use Rattle.std.specs.Prelude.{◌<◌, ◌≢◌, All, AllPairs, codes, decimal, ℕ, ◌+◌, Bool, true, false, List, [], ◌∷◌, ◌++◌, Ok, Err, Result, if◌then◌else◌, nat_eq, ◌==◌}
use Rattle.std.specs.List.{flat_map, list_any, slice_split}
use Rattle.layout.specs.declared.fault.LineFault.{LineFault}
use Rattle.layout.specs.declared.fault.LineFault.TheVariants.{NotANumber, Twice, BehindEnd}
use Rattle.layout.specs.declared.fault.MachinesFault.{MachinesFault}
use Rattle.layout.specs.declared.fault.MachinesFault.TheVariants.{Line, NoEnd}
use Rattle.layout.specs.declared.line.Line as line
use Rattle.layout.specs.declared.line.Line.TheVariants.{Nothing, End, Machine, Other}
use Rattle.layout.specs.Lines.{line_of}

-- what is read of the lines so far: the machines, and whether the last line, `end`, was among them
pub record Reading : Type 0 where
  pub machines : List ℕ
  pub ended : Bool

-- nothing
abbrev pub unread : Reading
unread = record { machines = []; ended = false }

-- and with one more line, or what is wrong with it: behind the last line only what says nothing may stand, and no machine stands there twice
abbrev pub with_line : Reading → line.Line → Result Reading LineFault
with_line r Nothing = Ok r
with_line r End = if r.ended then Err BehindEnd else Ok (record { machines = r.machines; ended = true })
with_line r (Machine m) = if r.ended then Err BehindEnd else (if list_any (λ n. nat_eq n m) r.machines then Err (Twice m) else Ok (record { machines = r.machines ++ m ∷ []; ended = r.ended }))
with_line r Other = if r.ended then Err BehindEnd else Err NotANumber

-- what follows a line that was right, or its fault with its number
abbrev pub after_line : ℕ → (Reading → Result Reading MachinesFault) → Result Reading LineFault → Result Reading MachinesFault
after_line n follows (Ok r) = follows r
after_line n follows (Err f) = Err (Line n f)

-- and with all these lines, the first of which has the number n + 1; or the first fault
unfoldable pub with_lines : Reading → ℕ → List (List ℕ) → Result Reading MachinesFault
with_lines r n [] = Ok r
with_lines r n (l ∷ ls) = after_line (n + 1) (λ s. with_lines s (n + 1) ls) (with_line r (line_of l))

-- a list without its last line has been cut
abbrev pub whole : Result Reading MachinesFault → Result (List ℕ) MachinesFault
whole (Ok r) = if r.ended then Ok r.machines else Err NoEnd
whole (Err f) = Err f

-- the machines on a list, in the order of their lines, or its first fault
abbrev pub machines_in : List ℕ → Result (List ℕ) MachinesFault
machines_in text = whole (with_lines unread 0 (slice_split (λ c. c == 10) text))

-- the first line of a new list, which says what the others are
abbrev pub comment : List ℕ
comment = codes "# The machines of this store: a line for each, which begins with its number, from 0 to 63. The last line is `end`.\n"

abbrev pub last_line : List ℕ
last_line = codes "end\n"

-- these may stand on a list: each has a number from 0 to 63, and none is there twice
pub record AreMachines (machines : List ℕ) : Type 0 where
  pub each : All (λ m. m < 64) machines
  pub once : AllPairs (λ m n. m ≢ n) machines

-- the list of these machines as it is written for a new store: a comment, a line for each, and the last line
abbrev pub machines_text : List ℕ → List ℕ
machines_text machines = comment ++ (flat_map (λ m. decimal m ++ 10 ∷ []) machines ++ last_line)
