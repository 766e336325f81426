use Rattle.std.proofs.Common.{◌≡◌, length, take}
use Rattle.script.specs.Generators.{generated}
use Rattle.script.proofs.Generating.{advanced}
use Rattle.script.proofs.generator.GeneratorSource.fill.Given as goal

abbrev pub invariant-loop-byte : goal.invariant-loop-byte
invariant-loop-byte l =
    (take l.byte-index l.bytes ≡ generated l.initial.self.number l.byte-index) × (l.self.number ≡ advanced l.initial.self.number l.byte-index) × (length l.bytes ≡ length l.initial.bytes)
