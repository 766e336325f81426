use Rattle.std.proofs.Common.{◌≡◌, take, map, vec_items}
use Rattle.rehearsal.specs.Listings.{listed}
use Rattle.rehearsal.proofs.listing.list_pieces.Given as goal

abbrev pub invariant-loop-piece : goal.invariant-loop-piece
invariant-loop-piece l = vec_items l.list ≡ map (λ p. listed p.now) (take l.piece-index l.piece-items)
