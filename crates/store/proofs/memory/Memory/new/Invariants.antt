use Rattle.std.proofs.Common.{◌≡◌, ℕ, nat_cmp, nat_eq, take}
use Rattle.std.specs.BTreeSet as sorted
use Rattle.std.specs.List.{list_any}
use Rattle.store.proofs.memory.Memory.new.Given as goal

-- the list has the machines so far
abbrev pub invariant-loop-machine : goal.invariant-loop-machine
invariant-loop-machine l = (q : ℕ) → sorted.contains nat_cmp l.listed q ≡ list_any (nat_eq q) (take l.machine-index l.machines)
