-- What is in a store, in words.
-- Assumes nothing.
use Rattle.std.specs.Prelude.{ℕ, List, ◌++◌, codes, decimal}
use Rattle.std.specs.List.{flat_map}
use Rattle.digest.specs.declared.value.Digest.{Digest}
use Rattle.digest.specs.Hex.{hex}
use Rattle.store.specs.declared.contents.Lying.{Lying}
use Rattle.store.specs.declared.listing.Listing.{Listing}

-- the digits of names, a space before each
abbrev pub names_text : List Digest → List ℕ
names_text ns = flat_map (λ n. codes " " ++ hex n.bytes) ns

-- a piece: its name, and how many bytes lie there
abbrev pub lying_text : Lying → List ℕ
lying_text x = hex x.name.bytes ++ (codes " " ++ decimal x.length)

-- a name in a list: the machine, and the name
abbrev pub listing_text : Listing → List ℕ
listing_text x = decimal x.machine ++ (codes " " ++ hex x.name.bytes)
