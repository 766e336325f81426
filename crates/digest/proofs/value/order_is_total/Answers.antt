use Rattle.std.proofs.Common.{Some, ap}
use Rattle.digest.proofs.Order.{digest_order, lex_is_order, same_bytes}
use Rattle.digest.proofs.value.order_is_total.Goals as goal

pub returns : goal.returns
returns c = record {
  total = digest_order;
  decides = same_bytes;
  order = λ x y. lex_is_order x.bytes y.bytes;
  partial_order = λ x y. ap Some (lex_is_order x.bytes y.bytes);
  library_order = λ x y. lex_is_order x.bytes y.bytes;
  library_equality = same_bytes;
}
