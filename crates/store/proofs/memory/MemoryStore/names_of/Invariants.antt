use Rattle.std.proofs.Common.{◌≡◌, ◌++◌, vec_items}
use Rattle.std.specs.List.{filter_map}
use Rattle.store.proofs.States.{name_in}
use Rattle.store.proofs.memory.MemoryStore.names_of.Given as goal

-- the names so far, and those that are to come
abbrev pub invariant-loop-listing : goal.invariant-loop-listing
invariant-loop-listing l = vec_items l.names ++ filter_map (name_in l.machine) l.listing-iterator ≡ filter_map (name_in l.machine) l.fn.self.listed.keys
