use Rattle.std.proofs.Common.{inl, inr, refl}
use Rattle.dayfile.specs.Days.{files_of}
use Rattle.days.proofs.reading.back.Goals as goal

pub returns-in_default-find : goal.returns-in_default-find
returns-in_default-find g c =
    inr (inr (inr (inl (c.in-Some.bytes.items, files_of c.in_ok-files.files, rw c.in-Some.is at c.in_ok-bytes.ensures, rw c.deref.ensures.value at c.in_ok-files.ensures, λ e h p. c.in_default-find.ensures.only e h p, refl))))
