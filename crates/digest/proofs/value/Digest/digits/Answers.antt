use Rattle.std.proofs.Common.{◌≡◌, ◌<◌, [], ◌∷◌, length, get_or, subst, sym, refl, ◌∙◌, not-suc-le-zero, IsAscii, arith, length-set}
use Rattle.std.proofs.option.Match.{if_some}
use Rattle.digest.specs.Hex.{hex}
use Rattle.digest.proofs.Digits.{ascii_joined, joined_digits, put_more}
use Rattle.digest.proofs.value.Digest.digits.Goals as goal

pub loop-i-init : goal.loop-i-init
loop-i-init c = record { long = refl; written = λ j below. absurd (not-suc-le-zero below); ascii = λ j below. absurd (not-suc-le-zero below) }

pub loop-i-preserved : goal.loop-i-preserved
loop-i-preserved c =
    let inside : c.loop-i.i < length c.loop-i.pairs = omega (arith, c.loop-i.invariant.long) in
    record {
      long = length-set _ _ _ ∙ c.loop-i.invariant.long;
      written = put_more (λ j pair. pair ≡ hex (get_or c.args.self.now.bytes j 0 ∷ [])) c.loop-i.pairs c.loop-i.i _ [] inside c.pair_of.ensures.value c.loop-i.invariant.written;
      ascii = put_more (λ j pair. IsAscii pair) c.loop-i.pairs c.loop-i.i _ [] inside c.pair_of.ensures.ascii c.loop-i.invariant.ascii;
    }

pub returns : goal.returns
returns c =
    let whole = if_some _ _ _ c.unwrap.ensures c.as_array.ensures.cases in
    let text = whole.same ∙ c.as_flattened.ensures.value in
    let all : c.loop-i.i ≡ 32 = omega arith in
    let long = c.loop-i.invariant.long in
    record {
      value = text ∙ joined_digits c.args.self.now.bytes c.loop-i.pairs (omega arith) (λ j below. c.loop-i.invariant.written j (omega arith));
      ascii = subst IsAscii (sym text) (ascii_joined c.loop-i.pairs (λ j below. c.loop-i.invariant.ascii j (omega arith)));
    }
