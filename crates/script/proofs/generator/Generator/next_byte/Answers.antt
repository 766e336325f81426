use Rattle.std.proofs.Common.{ℕ, ◌/◌, ◌^◌, ap}
use native.Mathlib.Nat.{mod-add-mod}
use Rattle.script.specs.Generators.{advance}
use Rattle.script.proofs.generator.Generator.next_byte.Goals as goal

pub returns : goal.returns
unfolding advance
returns c = record { number = mod-add-mod _ _ _; byte = ap (λ (x : ℕ). x / 2 ^ 56) (mod-add-mod _ _ _) }
