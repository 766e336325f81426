use Rattle.std.proofs.Common.{◌≡◌, map, take, vec_items}
use Rattle.store.specs.Memories.{state_of}
use Rattle.rehearsal.specs.Shows.{seen, shown_machine}
use Rattle.rehearsal.proofs.world.World.show.Given as goal

abbrev pub invariant-loop-machine : goal.invariant-loop-machine
invariant-loop-machine l = map shown_machine (vec_items l.machines) ≡ map (λ m. seen (state_of l.self.store) m) (take l.machine-index l.machine-items)
