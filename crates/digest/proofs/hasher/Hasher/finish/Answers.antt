use Rattle.std.proofs.Common.{◌-◌, ◌%◌, length, ap, ◌∙◌, arith, length-append}
use Rattle.digest.specs.declared.words.Words.{Words}
use Rattle.digest.specs.Digests.{digest_of}
use Rattle.digest.specs.Sha256.{sha256, joined_words, gap, padded}
use Rattle.digest.proofs.Padding.{length_bytes, first_zeros, absorbed_padded, padded_whole, absorbed_whole}
use Rattle.digest.proofs.hasher.Hasher.finish.Goals as goal

pub returns : goal.returns
unfolding digest_of sha256 gap
returns c =
    λ m a.
    let padding = c.update-3.ensures _ (c.update-2.ensures _ (c.update.ensures m a)) in
    let size = a.size in
    let counted = c.len.ensures.value in
    let short = a.short in
    let whole = a.whole in
    let parts = ap length a.rest ∙ length-append a.front c.args.self.rest.items in
    let zeros = first_zeros ((119 - c.len.result) % 64) (gap (length m)) (omega arith) (omega arith) in
    let end = c.to_be_bytes.ensures ∙ length_bytes (length m) c.args.self.length size in
    let value = absorbed_whole c.update-3.new.self (padded m) (padded_whole m) (absorbed_padded c.update-3.new.self m _ _ zeros end padding) in
    c.from.ensures ∙ ap (λ (v : Words). record { bytes = joined_words v }) value
