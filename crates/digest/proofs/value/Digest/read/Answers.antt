use Rattle.std.proofs.Common.{◌≡◌, ℕ, ◌<◌, List, [], ◌∷◌, length, get_or, Ok, Err, sym, refl, ap, ◌∙◌, not-suc-le-zero, arith, length-set}
use Rattle.std.specs.List.{flat_map}
use Rattle.std.proofs.lemmas.Option.{MatchOption-at_some}
use Rattle.digest.specs.Hex.{hex}
use Rattle.digest.proofs.Digits.{refused, length-hex, joined_digits, pair_at, joined_pairs, same_digits, put_more}
use Rattle.digest.proofs.value.Digest.read.Goals as goal

pub returns-in_default : goal.returns-in_default
returns-in_default c = refused c.args.text.now (Err (record {})) refl (λ d w e. omega (arith, length-hex d.bytes, ap length e))

pub returns-in_err-pairs : goal.returns-in_err-pairs
returns-in_err-pairs c =
    refused c.args.text.now _ c.from_residual.ensures.0
    (λ d w e.
    let some = c.as_array.ensures.variant.1 (omega (arith, length-hex d.bytes, ap length e)) in
    let none = c.in_err-pairs.ensures.variant in
    cc)

pub loop-i-init : goal.loop-i-init
loop-i-init c = record { long = refl; read = λ j below. absurd (not-suc-le-zero below) }

pub returns-in_err-bytes : goal.returns-in_err-bytes
returns-in_err-bytes c =
    refused c.args.text.now _ c.from_residual-in_err-bytes.ensures.0
    (λ d w e.
    let whole = MatchOption-at_some _ _ _ c.in_ok-pairs.ensures.ok_part c.as_array.ensures.cases in
    let within : c.loop-i.i < length d.bytes = omega (arith, length-hex d.bytes, ap length e, ap length whole.same) in
    c.in_err-bytes.ensures (get_or d.bytes c.loop-i.i 0) (w.1 c.loop-i.i) (pair_at c.args.text.now d.bytes c.in_ok-pairs.pairs.now (whole.same ∙ c.as_chunks.ensures.front) e c.loop-i.i [] within))

pub loop-i-preserved : goal.loop-i-preserved
loop-i-preserved c =
    let pairs = c.in_ok-pairs.pairs.now in
    let inside : c.loop-i.i < length c.loop-i.bytes = omega (arith, c.loop-i.invariant.long) in
    record {
      long = length-set _ _ _ ∙ c.loop-i.invariant.long;
      read = put_more (λ j byte. (byte < 256) × (get_or pairs j [] ≡ hex (byte ∷ []))) c.loop-i.bytes c.loop-i.i _ 0 inside c.in_ok-bytes.ensures c.loop-i.invariant.read;
    }

pub returns : goal.returns
returns c =
    let whole = MatchOption-at_some _ _ _ c.in_ok-pairs.ensures.ok_part c.as_array.ensures.cases in
    let bytes = c.loop-i.bytes in
    let pairs = c.in_ok-pairs.pairs.now in
    let long = c.loop-i.invariant.long in
    let all : c.loop-i.i ≡ 32 = omega arith in
    let each : (j : ℕ) → j < length bytes → (get_or bytes j 0 < 256) × (get_or pairs j [] ≡ hex (get_or bytes j 0 ∷ [])) = λ j below. c.loop-i.invariant.read j (omega arith) in
    let text =
    sym (joined_pairs _ c.args.text.now (omega arith)) ∙ ap (flat_map (λ (p : List ℕ). p)) (sym (whole.same ∙ c.as_chunks.ensures.front))
    ∙ joined_digits bytes pairs (omega (arith, ap length whole.same)) (λ j below. (each j below).1) in
    record {
      only = (omega arith, text);
      back = λ d w e. ap (λ (b : List ℕ). Ok (record { bytes = b })) (same_digits bytes d.bytes (omega arith) (λ j below. (each j below).0) w.1 (sym text ∙ e));
    }
