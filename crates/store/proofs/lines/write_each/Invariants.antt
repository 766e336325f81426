use Rattle.std.proofs.Common.{take, IsSome}
use Rattle.std.specs.Fmt.{IsPlainFormatter, HasWritten}
use Rattle.store.specs.Lines.{each_text}
use Rattle.store.proofs.lines.write_each.Given as goal

abbrev pub invariant-loop-item : goal.invariant-loop-item
invariant-loop-item g l = ((x : g.row.T.Denot) → IsSome (g.T.Display.output x)) → IsPlainFormatter l.initial.f → HasWritten g.W.Write.write_str_gives l.initial.f (each_text g.T.Display.output l.before (take l.item-index l.list) l.after) l.f
