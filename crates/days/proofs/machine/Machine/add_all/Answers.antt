use Rattle.std.proofs.Common.{[], ◌++◌, ◌∷◌, ◌∙◌, inr, refl}
use Rattle.std.proofs.lemmas.Result.{err_from_is_err_and}
use Rattle.days.specs.Machines.{makes}
use Rattle.days.specs.Sources.{file_of}
use Rattle.days.specs.Wholes.{more, none}
use Rattle.days.proofs.machine.Machine.add_all.Goals as goal

pub loop-machine-init : goal.loop-machine-init
loop-machine-init g c = record { number = refl; adds = ([], none) }

pub returns-in_err-added : goal.returns-in_err-added
returns-in_err-added g c =
    let passed = err_from_is_err_and c.from_residual-in_err-added.result c.from_residual-in_err-added.ensures.1 in
    let before = c.loop-machine.invariant in
    rw (passed.1, passed.2) (
      before.adds.0,
      makes c.loop-machine.machine,
      c.loop-machine.store,
      c.loop-machine.files,
      before.adds.1,
      inr (
        file_of c.in-Some.file,
        makes c.add-after.result.0,
        rw c.in-Some.is at c.in_ok-file.ensures.gives,
        rw (c.deref.ensures.value, c.deref-in-Some.ensures.value, before.number, c.in_err-added.was) at c.add-after.ensures.step,
      ),
    )

pub loop-machine-preserved : goal.loop-machine-preserved
loop-machine-preserved g c =
    let before = c.loop-machine.invariant in
    record {
      number = c.add-after.ensures.number ∙ before.number;
      adds = (
        before.adds.0 ++ file_of c.in-Some.file ∷ [],
        more (file_of c.in-Some.file) c.in_ok-added.field-0 before.adds.1 (rw c.in-Some.is at c.in_ok-file.ensures.gives)
            (rw (c.deref.ensures.value, c.deref-in-Some.ensures.value, before.number, c.in_ok-added.was) at c.add-after.ensures.step),
      );
    }
