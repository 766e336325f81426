use Rattle.std.proofs.Common.{◌≡◌, ◌++◌, map, vec_items}
use Rattle.store.proofs.Tables.{file_of, table_of}
use Rattle.store.proofs.memory.Memory.listed_days.Given as goal

abbrev pub invariant-loop-name : goal.invariant-loop-name
invariant-loop-name l = map (λ x. (x.name, vec_items x.file)) (vec_items l.found) ++ table_of file_of l.name-iterator ≡ table_of file_of l.self.days.entries
