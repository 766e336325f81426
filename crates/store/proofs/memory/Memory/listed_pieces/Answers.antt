use Rattle.std.proofs.Common.{◌≡◌, map, vec_items, append-nil, arith}
use Rattle.store.proofs.Tables.{Lists-table_of, length_in, lies_there, name_total, table_of}
use Rattle.store.proofs.memory.Memory.listed_pieces.Goals as goal

pub returns : goal.returns
returns c =
    let e : map (λ x. (x.name, x.length)) (vec_items c.loop-name.found) ≡ table_of (length_in c.args.spot) c.args.self.now.pieces.entries = grind (arith, append-nil) in
    Lists-table_of (length_in c.args.spot) name_total c.args.self.now.pieces.entries c.iter-name-items.ensures.ordered _ (lies_there c.args.spot c.args.self.now) _ e
