use Rattle.std.proofs.Common.{◌≡◌, ℕ, List, ◌∷◌, [], Some, Option, sym, ap, subst, arith}
use Rattle.std.specs.Fmt.{◌++?◌, DisplaysOnOk, styled_digits_output}
use Rattle.commands.specs.Quotes.{shown_byte}
use Rattle.commands.proofs.Shown.{shown_escaped}
use Rattle.commands.proofs.quote.ShownByteDisplay.fmt.Goals as goal

pub returns-else-is_plain-clause-writes : goal.returns-else-is_plain-clause-writes
returns-else-is_plain-clause-writes g c =
    let text : Some (92 ∷ (120 ∷ [])) ++? styled_digits_output c.in_radix.result c.laid_out.result ≡ Some (shown_byte c.args.self.now.0) =
    rw (c.laid_out.ensures, c.in_radix.ensures) (ap Some (shown_escaped c.args.self.now.0 (omega arith) (sym c.if-is_plain.ensures))) in
    subst (λ (o : Option (List ℕ)). DisplaysOnOk g.W.Write.write_str_gives c.args.f.now c.write-else-is_plain.result o c.write-else-is_plain.new.self) text c.write-else-is_plain.ensures.writes
