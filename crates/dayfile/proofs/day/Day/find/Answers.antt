use Rattle.std.proofs.Common.{◌≡◌, ◌≢◌, rules, subst}
use Rattle.std.proofs.lemmas.Iterator.{YieldsList-from_slice, first_from_find}
use borrow.Author.Tests.{tests}
use Rattle.dayfile.specs.declared.entry.FileEntry.{FileEntry}
use Rattle.dayfile.proofs.Finding.{IsFirst, is_there, is_only}
use Rattle.dayfile.proofs.day.Day.find.Goals as goal

first : (c : goal.After-find) → IsFirst c.args.self.now.files.items c.args.path.now c.find.result
first c =
    let same : FileEntry → Type 0 = λ f. f.path.bytes.items ≡ c.args.path.now in
    let other : FileEntry → Type 0 = λ f. f.path.bytes.items ≢ c.args.path.now in
    subst (λ fs. IsFirst fs c.args.path.now c.find.result) c.deref.ensures.value
    (first_from_find _ _ c.find.result same other c.find.ensures.ran (YieldsList-from_slice c.deref.result.now cc) (λ x q k. search (rules, tests)) (λ x q k. search (rules, tests)))

pub returns-clause-found : goal.returns-clause-found
returns-clause-found c = is_there c.args.self.now.files.items c.args.path.now c.find.result (first c)

pub returns-clause-only : goal.returns-clause-only
returns-clause-only c = is_only c.args.self.now.files.items c.args.path.now c.find.result c.args.self.now.fits (first c)
