use Rattle.std.proofs.Common.{refl}
use Rattle.rehearsal.proofs.step.Step.read_as.Goals as goal

pub returns-in_ok-machine-in-File : goal.returns-in_ok-machine-in-File
returns-in_ok-machine-in-File c =
    let found = c.in_ok-machine-in-File in
    rw c.in-File.is ((found.machine, found.path, found.message), refl, found.ensures)

pub returns-in_ok-machine-in-Back : goal.returns-in_ok-machine-in-Back
returns-in_ok-machine-in-Back c =
    let found = c.in_ok-machine-in-Back in
    rw c.in-Back.is ((found.machine, found.number, found.path), refl, found.ensures)
