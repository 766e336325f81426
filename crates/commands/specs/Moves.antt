-- How many pieces a run of the sweeper has moved.
-- Assumes nothing.
use Rattle.std.specs.Prelude.{ℕ, ◌+◌, ◌-◌, ◌^◌, min}
use Rattle.sweeper.specs.declared.done.Done.{Done}
use Rattle.sweeper.specs.declared.done.Done.TheVariants as done
use Rattle.commands.specs.declared.sweep.Moved.{Moved}

-- one more, up to the highest number there is
abbrev pub one_more : ℕ → ℕ
one_more n = min (n + 1) (2 ^ 64 - 1)

-- the counts with one step more
abbrev pub counting : Moved → Done → Moved
counting m (done.PutAside n) = record { aside = one_more m.aside; back = m.back; away = m.away }
counting m (done.PutBack n) = record { aside = m.aside; back = one_more m.back; away = m.away }
counting m (done.ThrownAway n) = record { aside = m.aside; back = m.back; away = one_more m.away }
counting m (done.Looked n) = m
counting m done.Noted = m
counting m (done.Decided b a) = m
counting m done.Rested = m
