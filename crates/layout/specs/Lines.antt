-- A line of the list of machines, and what it says. Its words are what lies between spaces and tabs.
-- Assumes nothing.
use Rattle.std.specs.Prelude.{ℕ, ◌+◌, ◌-◌, ◌*◌, cond, ◌&&◌, ◌||◌, List, [], ◌∷◌, length, take, Option, Some, None, bytes_eq, codes, if◌then◌else◌, nat_eq, nat_lt, ◌==◌, slice_index}
use Rattle.std.specs.List.{ends_with}
use Rattle.script.specs.Lines.{first, rest}
use Rattle.script.specs.Numbers.{between}
use Rattle.layout.specs.declared.line.Line.{Line}
use Rattle.layout.specs.declared.line.Line.TheVariants.{Nothing, End, Machine, Other}

-- a line without the carriage return that may be its last byte
abbrev pub chomped : List ℕ → List ℕ
chomped l = if ends_with nat_eq l (13 ∷ []) then take (length l - 1) l else l

-- the number that a decimal digit stands for
abbrev pub digit_value : ℕ → Option ℕ
digit_value c = cond (between 48 57 c) (Some (c - 48)) None

-- the number that two digits spell
abbrev pub two_digits : Option ℕ → Option ℕ → Option ℕ
two_digits (Some tens) (Some units) = Some (tens * 10 + units)
two_digits tens units = None

-- the number that a word of one digit or two spells
abbrev pub number_value : List ℕ → Option ℕ
number_value (a ∷ []) = digit_value a
number_value (a ∷ (b ∷ [])) = two_digits (digit_value a) (digit_value b)
number_value other = None

-- machines have the numbers from 0 to 63
abbrev pub machine_line : Option ℕ → Line
machine_line (Some n) = if nat_lt n 64 then Machine n else Other
machine_line None = Other

-- what a line says that has this first word, and then this second one; each may be empty. A blank line says nothing, nor does one that begins with #. The word `end`, alone, is the last line.
abbrev pub said : List ℕ → List ℕ → Line
said one two = if length one == 0 || slice_index one 0 == 35 then Nothing else (if bytes_eq one (codes "end") && length two == 0 then End else machine_line (number_value one))

-- what a line says
abbrev pub line_of : List ℕ → Line
line_of l = said (first (chomped l)) (first (rest (chomped l)))
