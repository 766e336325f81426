use Rattle.std.proofs.Common.{ℕ, List, [], ap, ◌∙◌}
use Rattle.std.proofs.option.Match.{if_some}
use Rattle.digest.specs.Sha256.{joined_words}
use Rattle.digest.proofs.BigEndian.{to_be_bytes_is, words_flat}
use Rattle.digest.proofs.words.DigestFromWords.from.Goals as goal

pub returns : goal.returns
unfolding joined_words
returns c =
    let map = c.map-quads.ensures.items in
    let whole = if_some _ _ _ c.unwrap.ensures c.as_array.ensures.cases in
    let flat = words_flat _ c.map-quads.result map.long (λ i h. (map.at i 0 [] h).2.met ∙ to_be_bytes_is 4 _) in
    ap (λ (b : List ℕ). record { bytes = b }) (c.from.ensures ∙ whole.same ∙ c.as_flattened.ensures.value ∙ flat)
