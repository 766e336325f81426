use Rattle.std.proofs.Common.{length, sym, ap, ◌∙◌}
use Rattle.script.specs.declared.message.Message.{Message}
use Rattle.script.specs.Messages.{bytes_of}
use Rattle.script.proofs.Generating.{length-generated}
use Rattle.script.proofs.message.Message.length.Goals as goal

pub returns-in-Random : goal.returns-in-Random
returns-in-Random c = sym (length-generated _ _) ∙ ap (λ (m : Message). length (bytes_of m)) (sym c.in-Random.is)
