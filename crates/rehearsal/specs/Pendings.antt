-- A script that comes in parts.
-- Assumes nothing.
use Rattle.std.specs.Prelude.{◌≡◌, ℕ, ◌+◌, ◌%◌, ◌^◌, ◌<◌, ◌≤◌, List, [], ◌∷◌, ◌++◌, length, Some, None, Ok, Err, vec_items, Option, Result, Vec, ◌≢◌, slice_index}
use Rattle.std.specs.declared.alloc.Global.{Global}
use Rattle.rehearsal.specs.declared.answer.Answer.{Answer}
use Rattle.script.specs.declared.fault.Fault.TheVariants as fault
use Rattle.rehearsal.specs.declared.line.LineFault.{LineFault}
use Rattle.rehearsal.specs.declared.pending.Answered.{Answered}
use Rattle.rehearsal.specs.declared.pending.Pending.{Pending}
use Rattle.rehearsal.specs.declared.unkept.Unkept.{Unkept}
use Rattle.rehearsal.specs.declared.unplayed.Unplayed.TheVariants as unplayed
use Rattle.rehearsal.specs.declared.world.World.{World}
use Rattle.rehearsal.specs.Answers.{Answers, chomped, most}
use Rattle.rehearsal.specs.Unkepts.{IsUnkept}

-- the answer to line number n as it stands in the script, however long it is, in the world w, and the world after it
pub data LineAnswers (n : ℕ) (l : List ℕ) (w : World) (r : Result (Option Answer) LineFault) (v : World) : Type 0 where
  -- it is played
  played : length l ≤ most → Answers n (chomped l) w r v → LineAnswers n l w r v
  -- it is not looked at
  too_long : most < length l → r ≡ Err (record { number = n; why = unplayed.Fault fault.TooLong }) → v ≡ w → LineAnswers n l w r v
  -- there was no memory to keep it
  no_memory : 0 < length l → r ≡ Err (record { number = n; why = unplayed.Fault fault.NoMemory }) → v ≡ w → LineAnswers n l w r v

-- what is kept of the line l that is being read
abbrev pub Kept : List ℕ → Result (Vec ℕ Global) Unkept → Type 0
Kept l (Ok v) = (vec_items v ≡ l) × (length l ≤ most)
Kept l (Err e) = IsUnkept e l

-- the line that is being read, since the last one ended, is l so far
abbrev pub Holds : Pending → List ℕ → Type 0
Holds p l = Kept l p.line

-- a line without a newline in it
abbrev pub OneLine : List ℕ → Type 0
OneLine l = (k : ℕ) → k < length l → slice_index l k ≢ 10

-- a part of the script is taken in: all of it where no line ends in it, or else up to its first newline and with it. Before, the line so far is l, n lines were ended, and the world is w; after it they are as q has them, and the world is v.
abbrev pub TakesIn : List ℕ → ℕ → List ℕ → World → Option Answered → Pending → World → Type 0
TakesIn l n part w None q v = OneLine part × Holds q (l ++ part) × (q.ended ≡ n) × (v ≡ w)
TakesIn l n part w (Some r) q v =
    (line : List ℕ) × OneLine line × (part ≡ line ++ (10 ∷ r.after.now)) × LineAnswers q.ended (l ++ line) w r.answer v × Holds q [] × (q.ended ≡ (n + 1) % 2 ^ 64)
