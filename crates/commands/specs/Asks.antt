-- What a program is asked for by its arguments.
-- Assumes nothing.
use Rattle.std.specs.Prelude.{◌≡◌, ◌⊎◌, ℕ, ◌<◌, ◌==◌, ◌||◌, Bool, true, false, List, [], length, nat_lt, slice_index_or, Some, None}
use Rattle.commands.specs.declared.arguments.Fault.TheVariants as fault
use Rattle.commands.specs.declared.arguments.Wrong.{Wrong}
use Rattle.commands.specs.declared.asked.Asked.{Asked}
use Rattle.commands.specs.declared.asked.Asked.TheVariants as asked
use Rattle.commands.specs.declared.asked.Place.{Place}
use Rattle.commands.specs.declared.program.Program.{Program}
use Rattle.commands.specs.declared.program.Program.TheVariants as program
use Rattle.commands.specs.Lines.{path_of}
use Rattle.commands.specs.Numbers.{NumberRead}

-- the word at this place, counted from 0
abbrev pub word : List (List ℕ) → ℕ → List ℕ
word ws k = slice_index_or ws k []

-- the first word is the machine and the second the number
abbrev pub Names : List (List ℕ) → Place → Type 0
Names ws at = NumberRead (word ws 0) (Some at.machine) × NumberRead (word ws 1) (Some at.number)

-- these words ask this program for that
abbrev pub Asks : Program → List (List ℕ) → Asked → Type 0
Asks p ws (asked.Init machines) = (p ≡ program.Init) × (0 < length ws)
Asks p ws (asked.Day machine list) = (p ≡ program.Day) × (length ws ≡ 2) × NumberRead (word ws 0) (Some machine) × (list.now ≡ word ws 1)
Asks p ws asked.Days = (p ≡ program.List) × (length ws ≡ 0)
Asks p ws (asked.Files at) = (p ≡ program.List) × (length ws ≡ 2) × Names ws at
Asks p ws (asked.Back at path to) = (p ≡ program.Back) × Names ws at × (path.now ≡ path_of (word ws 2)) × (((length ws ≡ 3) × (to.now ≡ path.now)) ⊎ ((length ws ≡ 4) × (to.now ≡ word ws 3)))
Asks p ws (asked.Go at) = (p ≡ program.Go) × (length ws ≡ 2) × Names ws at
Asks p ws asked.Sweep = (p ≡ program.Sweep) × (length ws ≡ 0)

-- so many words are asked with
abbrev pub counts : Program → ℕ → Bool
counts program.Init n = nat_lt 0 n
counts program.Day n = n == 2
counts program.List n = n == 0 || n == 2
counts program.Back n = n == 3 || n == 4
counts program.Go n = n == 2
counts program.Sweep n = n == 0

-- one of these two words is no number
abbrev pub IsNoNumber : List ℕ → List ℕ → Wrong → Type 0
IsNoNumber v w e = (e.fault ≡ fault.NoNumber) × NumberRead e.word.now None × ((e.word.now ≡ v) ⊎ (e.word.now ≡ w))

-- these words ask this program for nothing: there are too few, or too many, or one is no number; what a list of machines lacks is not said here
abbrev pub Misasks : Program → List (List ℕ) → Wrong → Type 0
Misasks p ws e = ((counts p (length ws) ≡ false) × (e.fault ≡ fault.WrongCount)) ⊎ ((counts p (length ws) ≡ true) × ((p ≡ program.Init) ⊎ IsNoNumber (word ws 0) (word ws 1) e))
