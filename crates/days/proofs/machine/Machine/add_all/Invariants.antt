use Rattle.std.proofs.Common.{◌≡◌, ℕ, List}
use Rattle.days.specs.Machines.{makes}
use Rattle.days.specs.Wholes.{AddsFiles}
use Rattle.days.proofs.machine.Machine.add_all.Given as goal

abbrev pub invariant-loop-machine : goal.invariant-loop-machine
invariant-loop-machine g l =
    record {
      number : l.machine.number ≡ l.fn.self.number;
      adds : (fs : List (List ℕ × List ℕ)) × AddsFiles g.S.Store.does g.F.Source.gives l.fn.self.number (makes l.fn.self) l.fn.store l.fn.files fs (makes l.machine) l.store l.files;
    }

abbrev pub decreases-loop-machine : goal.decreases-loop-machine
decreases-loop-machine g l = g.F.Source.left l.files
