use Rattle.std.proofs.Common.{◌≡◌, append-nil, arith, refl, vec_items, ap, ◌∙◌}
use Rattle.std.specs.List.{filter_map}
use Rattle.store.specs.State.{is_in}
use Rattle.store.proofs.States.{is_in-names, name_in}
use Rattle.store.proofs.memory.MemoryStore.names_of.Goals as goal

pub returns : goal.returns
returns c =
    let e : vec_items c.loop-listing.names ≡ filter_map (name_in c.args.machine) c.args.self.now.listed.keys = grind (arith, append-nil) in
    (λ n. ap (is_in n) e ∙ is_in-names c.args.machine n c.args.self.now.listed.keys, refl)
