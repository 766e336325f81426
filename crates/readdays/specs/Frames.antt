-- A frame, as it stands in the input, and what is in it.
-- Assumes nothing.
use Rattle.std.specs.Prelude.{◌≡◌, ℕ, ◌<◌, ◌≤◌, List, [], ◌∷◌, ◌++◌, length, take, drop, Option, Some, None}
use Rattle.std.specs.Int.{w32, to_be_bytes}
use Rattle.std.specs.List.{flat_map}
use Rattle.store.specs.declared.day.DayName.{DayName}
use Rattle.dayfile.specs.Reading.{◌>>=◌, number_at}
use Rattle.readdays.specs.declared.frame.Front.{Front}
use Rattle.readdays.specs.declared.frame.Front.TheVariants.{Frame, Part, TooLong}

-- the longest frame
abbrev pub most : ℕ
most = 67108864

-- behind a length n, if that is there, stand these bytes: a frame of n bytes, and what follows it; a part of one; or it is too long
abbrev pub BeginsBehind : Option (ℕ × List ℕ) → Front → Type 0
BeginsBehind (Some x) (Frame f rest) = (x.0 ≤ most) × (x.0 ≤ length x.1) × (f.now ≡ take x.0 x.1) × (rest.now ≡ drop x.0 x.1)
BeginsBehind (Some x) Part = (x.0 ≤ most) × (length x.1 < x.0)
BeginsBehind (Some x) TooLong = most < x.0
BeginsBehind None Part = Unit {0}
BeginsBehind _ _ = ⊥

-- what bytes begin with
abbrev pub Begins : List ℕ → Front → Type 0
Begins bytes front = BeginsBehind (number_at w32 bytes) front

-- a frame as it stands in the input
abbrev pub frame_bytes : List ℕ → List ℕ
frame_bytes f = to_be_bytes w32 (length f) ++ f

-- a frame and what follows it are all of these bytes
abbrev pub IsAll : List ℕ → Front → Type 0
IsAll bytes (Frame f rest) = bytes ≡ frame_bytes f.now ++ rest.now
IsAll bytes other = Unit {0}

-- the first n of these bytes are frames, one after the other, and a part of one at most follows
pub record EndsFrames (n : ℕ) (bytes : List ℕ) : Type 0 where
  pub within : n ≤ length bytes
  pub frames : (fs : List (List ℕ)) × (take n bytes ≡ flat_map frame_bytes fs)
  pub rest : Begins (drop n bytes) Part

-- a machine and the number of a day, and the bytes behind them
abbrev pub named : List ℕ → Option (DayName × List ℕ)
named [] = None
named (machine ∷ rest) = do
  number ← number_at w32 rest
  Some (record { machine = machine; number = number.0 }, number.1)
