use Rattle.std.proofs.Common.{◌≡◌, ◌++◌, [], ◌∷◌, take}
use Rattle.std.specs.List.{flat_map}
use Rattle.std.specs.Prelude.{decimal}
use Rattle.layout.proofs.machines.write_machines.Given as goal

abbrev pub invariant-loop-machine : goal.invariant-loop-machine
invariant-loop-machine l = l.text.items ≡ l.initial.text.items ++ flat_map (λ m. decimal m ++ 10 ∷ []) (take l.machine-index l.machines)
