use Rattle.std.proofs.Common.{◌≡◌, ℕ, ◌+◌, ◌/◌, ◌^◌, ◌<◌, [], ◌∷◌, ◌++◌, length, take, set, sym, refl, ap, ◌∙◌, add-one, arith, take_all, take-suc-set, length-set}
use Rattle.script.specs.Generators.{advance, generated}
use Rattle.script.proofs.Generating.{advanced, generated_add, generated_more, advanced_more}
use Rattle.script.proofs.generator.GeneratorSource.fill.Goals as goal

pub loop-byte-init : goal.loop-byte-init
unfolding generated advanced
loop-byte-init c = (refl, refl, refl)

pub loop-byte-preserved : goal.loop-byte-preserved
loop-byte-preserved c =
    let x = c.args.self.now.number in
    let i = c.loop-byte.byte-index in
    let s = c.loop-byte.bytes in
    let inside : i < length s = omega arith in
    let reached = c.loop-byte.invariant.1 in
    let byte : c.next_byte.result ≡ advance (advanced x i) / 2 ^ 56 = c.next_byte.ensures.byte ∙ ap (λ (n : ℕ). advance n / 2 ^ 56) reached in
    let more : take (i + 1) (set s i c.next_byte.result) ≡ take i s ++ (c.next_byte.result ∷ []) = rw add-one (take-suc-set s i _ inside) in (
      more ∙ (λ j. c.loop-byte.invariant.0 j ++ (byte j ∷ [])) ∙ sym (generated_more x i),
      c.next_byte.ensures.number ∙ ap advance reached ∙ sym (advanced_more x i),
      length-set s i _ ∙ c.loop-byte.invariant.2,
    )

pub returns : goal.returns
returns c =
    let x = c.args.self.now.number in
    let all : c.loop-byte.byte-index ≡ length c.args.bytes.now = omega arith in
    let bytes : c.loop-byte.bytes ≡ generated x (length c.args.bytes.now) = sym (take_all c.loop-byte.byte-index c.loop-byte.bytes (omega arith)) ∙ c.loop-byte.invariant.0 ∙ ap (generated x) all in
    let number : c.loop-byte.self.number ≡ advanced x (length c.args.bytes.now) = c.loop-byte.invariant.1 ∙ ap (advanced x) all in
    record {
      bytes = bytes;
      len = c.loop-byte.invariant.2;
      rest = λ n. generated_add x (length c.args.bytes.now) n ∙ (λ i. sym bytes i ++ generated (sym number i) n);
    }
