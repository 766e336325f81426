use Rattle.std.proofs.Common.{◌≡◌, ◌++◌, length, map, vec_items}
use Rattle.commands.specs.Lines.{InOrder, paths_of}
use Rattle.commands.proofs.list_file.paths_in.Given as goal

abbrev pub invariant-loop-rest : goal.invariant-loop-rest
invariant-loop-rest l = record { split : paths_of l.list ≡ map (λ p. p.now) (vec_items l.paths) ++ paths_of l.rest; in_order : InOrder (map (λ p. p.now) (vec_items l.paths)) }

abbrev pub decreases-loop-rest : goal.decreases-loop-rest
decreases-loop-rest l = length l.rest
