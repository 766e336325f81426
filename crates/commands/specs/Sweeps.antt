-- What a run of the sweeper does next.
-- Assumes nothing.
use Rattle.std.specs.Prelude.{Bool, cond, [], ◌∷◌}
use Rattle.sweeper.specs.Sweepers.{Sweeping, rests, puts, waits, ends, anew}
use Rattle.commands.specs.declared.sweep.Next.{Next}
use Rattle.commands.specs.declared.sweep.Next.TheVariants as next

-- after a look of this run nothing more is begun or ended than that
abbrev pub step_after : Bool → Sweeping → Next
step_after looked rests = cond looked next.Nothing next.Look
step_after looked (puts []) = next.Note
step_after looked (puts (n ∷ ns)) = next.Aside
step_after looked (waits h) = cond looked next.Nothing next.Decide
step_after looked (ends back away) = next.Turn
step_after looked anew = next.Decide
