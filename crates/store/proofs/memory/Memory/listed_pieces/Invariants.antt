use Rattle.std.proofs.Common.{◌≡◌, ◌++◌, map, vec_items}
use Rattle.store.proofs.Tables.{length_in, table_of}
use Rattle.store.proofs.memory.Memory.listed_pieces.Given as goal

abbrev pub invariant-loop-name : goal.invariant-loop-name
invariant-loop-name l = map (λ x. (x.name, x.length)) (vec_items l.found) ++ table_of (length_in l.spot) l.name-iterator ≡ table_of (length_in l.spot) l.self.pieces.entries
