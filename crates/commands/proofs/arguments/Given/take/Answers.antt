use Rattle.std.proofs.Common.{◌≡◌, drop, sym, ap, ◌∙◌}
use Rattle.commands.specs.declared.arguments.Kind.TheVariants.{StoreIs}
use Rattle.commands.specs.Arguments.{kind_by, said}
use Rattle.commands.proofs.Words.{has_folder, takes_folder}
use Rattle.commands.proofs.arguments.Given.take.Goals as goal

pub returns-in-StoreIs : goal.returns-in-StoreIs
returns-in-StoreIs c =
    let kind : kind_by c.args.word.now ≡ StoreIs = ap kind_by (sym c.as_bytes.ensures.value) ∙ sym c.kind_of.ensures ∙ c.in-StoreIs.is in
    let folder : c.folder_in.result.now ≡ drop 8 c.args.word.now = c.folder_in.ensures (has_folder c.args.word.now kind) in
    takes_folder c.args.tells c.args.word.now c.folder_in.result.now (said c.args.self.now) (said c.name_folder-in-StoreIs.new.self) c.name_folder-in-StoreIs.result c.if-self.false kind folder c.name_folder-in-StoreIs.ensures
