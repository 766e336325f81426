-- What a sweeper does.
-- Assumes nothing.
use Rattle.std.specs.Prelude.{ℕ, List, [], Bool, true, false, slice_get}
use Rattle.std.specs.Option.{unwrap_or}
use Rattle.digest.specs.declared.value.Digest.{Digest}
use Rattle.sweeper.specs.declared.sweeper.Activity.{Activity}
use Rattle.sweeper.specs.declared.sweeper.Activity.TheVariants as activity
use Rattle.sweeper.specs.declared.sweeper.Sweeper.{Sweeper}
use Rattle.sweeper.specs.declared.turns.Turns.{Turns}
use Rattle.store.specs.declared.sweep.Noted.{Noted}
use Rattle.store.specs.declared.sweep.Sweep.{Sweep}
use Rattle.store.specs.declared.sweep.Sweep.TheVariants as kept

pub data Sweeping : Type 0 where
  -- it rests
  rests : Sweeping
  -- it puts aside, and these are left
  puts : (left : List Digest) → Sweeping
  -- it waits, and has noted these numbers
  waits : Noted → Sweeping
  -- it ends its sweep: these are to be put back, and then these thrown away
  ends : (back : List Digest) → (away : List Digest) → Sweeping
  -- it stopped while it ended a sweep, and is to decide anew
  anew : Sweeping

-- what goes back and what goes away, in the order of the names
abbrev pub turns_of : Turns → List Digest × List Digest
turns_of t = (t.back.keys, t.away.keys)

-- what this sweeper does
abbrev pub doing : Activity → Sweeping
doing activity.Rests = rests
doing (activity.PutsAside left) = puts left.keys
doing (activity.Waits h) = waits h
doing (activity.Ends t) = ends t.back.keys t.away.keys
doing activity.DecidesAnew = anew

abbrev pub sweeping : Sweeper → Sweeping
sweeping w = doing w.activity

-- whether it rests; puts aside; puts aside, and nothing is left; waits; may decide; ends its sweep; and whether nothing is left to put back and to throw away
abbrev pub is_resting : Sweeping → Bool
is_resting rests = true
is_resting other = false

abbrev pub is_putting : Sweeping → Bool
is_putting (puts left) = true
is_putting other = false

abbrev pub all_aside : Sweeping → Bool
all_aside (puts []) = true
all_aside other = false

abbrev pub is_waiting : Sweeping → Bool
is_waiting (waits h) = true
is_waiting other = false

abbrev pub decides_now : Sweeping → Bool
decides_now (waits h) = true
decides_now anew = true
decides_now other = false

abbrev pub is_ending : Sweeping → Bool
is_ending (ends back away) = true
is_ending other = false

abbrev pub is_over : List Digest × List Digest → Bool
is_over ([], []) = true
is_over other = false

-- the number that was noted of a machine
abbrev pub noted_of : Noted → ℕ → ℕ
noted_of h i = unwrap_or (slice_get h.highest i) 0

-- what a sweeper does when it comes up, by what is kept
abbrev pub up : Sweep → Sweeping
up kept.Rests = rests
up (kept.Waits h) = waits h
up kept.Ends = anew
