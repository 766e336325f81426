-- What a machine and the sweeper do on the store in memory.
-- Assumes nothing.
use Rattle.std.specs.Prelude.{◌≡◌, ◌⊎◌, ℕ, ◌<◌, ◌≤◌, length, vec_items, Err, Option, Result}
use Rattle.cutting.specs.declared.refusal.Refusal.{Refusal}
use Rattle.cutting.specs.declared.refusal.Refusal.TheVariants.{NoMemory, PieceEmpty, PieceTooLong}
use Rattle.cutting.specs.Results.{TooLong}
use Rattle.cutting.specs.Rule.{most_in_file}
use Rattle.dayfile.specs.Limits.{IsPath}
use Rattle.dayfile.specs.Paths.{IsNoPath}
use Rattle.script.specs.declared.message.Message.{Message}
use Rattle.script.specs.Messages.{bytes_of}
use Rattle.store.specs.declared.memory.Memory.{Memory}
use Rattle.store.specs.Effects.{Does}
use Rattle.store.specs.Memories.{state_of}
use Rattle.store.specs.State.{most_in_piece}
use Rattle.days.specs.declared.done.Done.{Done}
use Rattle.store.specs.Asking.{Doing}
use Rattle.days.specs.Machines.{Work}
use Rattle.days.specs.Steps.{Adds, Begins, Breaks, Names, Raises, Sees}
use Rattle.sweeper.specs.declared.done.Done as swept
use Rattle.sweeper.specs.Steps.{Decides, Looks, Nexts, Notes, PutsAside}
use Rattle.sweeper.specs.Sweepers.{Sweeping}
use Rattle.rehearsal.specs.declared.step.Act.{Act}
use Rattle.rehearsal.specs.declared.step.Act.TheVariants as act
use Rattle.rehearsal.specs.declared.step.Move.{Move}
use Rattle.rehearsal.specs.declared.step.Move.TheVariants as move

-- the store in memory does what its requests' effects are, or memory is wanting
abbrev pub memory_does : Doing Memory
memory_does s q a t = Does (state_of s) q a (state_of t)

-- The piece or the file has a length that it may have, and so has the path.
abbrev pub Fits : Act → Type 0
Fits (act.See m) = (0 < length (bytes_of m)) × (length (bytes_of m) ≤ most_in_piece)
Fits (act.File path m) = (length (bytes_of m) ≤ most_in_file) × IsPath (vec_items path)
Fits other = Unit {0}

-- Or not: a piece has no bytes, or too many; a file has too many, or else its path is none, or there is no memory for it.
abbrev pub Unfit : Act → Refusal → Type 0
Unfit (act.See m) r = ((length (bytes_of m) ≡ 0) × (r ≡ PieceEmpty)) ⊎ ((most_in_piece < length (bytes_of m)) × (r ≡ PieceTooLong))
Unfit (act.File path m) r = TooLong (length (bytes_of m)) r ⊎ ((length (bytes_of m) ≤ most_in_file) × IsNoPath (vec_items path) r)
Unfit other r = ⊥

-- the sweeper does this, which leads the store from s to t; it does `old` before it and `new` after it
abbrev pub SweepsAs : Move → Sweeping → Memory → Result swept.Done Refusal → Sweeping → Memory → Type 0
SweepsAs move.Look old s a new t = Looks memory_does old s a new t
SweepsAs move.Aside old s a new t = PutsAside memory_does old s a new t
SweepsAs move.Note old s a new t = Notes memory_does old s a new t
SweepsAs move.Decide old s a new t = Decides memory_does old s a new t
SweepsAs move.Next old s a new t = Nexts memory_does old s a new t

-- there is no memory for the bytes of a message, and nothing is done
abbrev pub NoBytes : Message → Option Work → Memory → Result Done Refusal → Option Work → Memory → Type 0
NoBytes m old s a new t = (0 < length (bytes_of m)) × (a ≡ Err NoMemory) × (new ≡ old) × (t ≡ s)

-- machine i does this, which leads the store from s to t; it makes `old` before it and `new` after it
abbrev pub Acts : Act → ℕ → Option Work → Memory → Result Done Refusal → Option Work → Memory → Type 0
Acts act.Begin i old s a new t = Begins memory_does i old s a new t
Acts (act.See m) i old s a new t = Sees memory_does i (bytes_of m) old s a new t ⊎ NoBytes m old s a new t
Acts (act.File path m) i old s a new t = Adds memory_does i (vec_items path) (bytes_of m) old s a new t ⊎ NoBytes m old s a new t
Acts act.Raise i old s a new t = Raises memory_does i old s a new t
Acts act.Name i old s a new t = Names memory_does i old s a new t
Acts act.Break i old s a new t = Breaks memory_does i old s a new t
