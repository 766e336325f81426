use Rattle.std.proofs.Common.{◌≡◌, map, vec_items, append-nil, arith}
use Rattle.store.proofs.Tables.{Lists-table_of, file_of, day_there, day_total, table_of}
use Rattle.store.proofs.memory.Memory.listed_days.Goals as goal

pub returns : goal.returns
returns c =
    let e : map (λ x. (x.name, vec_items x.file)) (vec_items c.loop-name.found) ≡ table_of file_of c.args.self.now.days.entries = grind (arith, append-nil) in
    Lists-table_of file_of day_total c.args.self.now.days.entries c.iter-name-items.ensures.ordered _ (day_there c.args.self.now) _ e
