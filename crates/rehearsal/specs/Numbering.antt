-- The machines of a script.
-- Assumes nothing.
use Rattle.std.specs.Prelude.{◌≡◌, ℕ, List, [], ◌∷◌, map}
use Rattle.days.specs.declared.machine.Machine.{Machine}

-- the numbers of the machines that there are
abbrev pub machine_numbers : List ℕ
machine_numbers = 0 ∷ 1 ∷ 2 ∷ 3 ∷ []

-- each has its number
abbrev pub IsNumbered : List Machine → Type 0
IsNumbered ms = map (λ m. m.number) ms ≡ machine_numbers
