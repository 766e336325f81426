use Rattle.std.proofs.Common.{◌≡◌, vec_items, rules, sym, subst, ap}
use Rattle.std.proofs.lemmas.Result.{IfOk-weaker}
use Rattle.std.specs.List.{list_any}
use Rattle.std.specs.List.Sorted.{IsStrictlySortedBy}
use Rattle.store.specs.Memories.{listing_cmp}
use Rattle.store.specs.State.{same_listing}
use Rattle.store.proofs.memory.Memory.listed_names.Goals as goal

pub returns : goal.returns
returns c =
    IfOk-weaker c.collect.result (λ found. vec_items found ≡ c.args.self.now.listed.keys) _
    (λ found e. record {
      in_order = subst (IsStrictlySortedBy listing_cmp) (sym e) c.iter.ensures.ordered;
      all = λ l. ap (list_any (same_listing l)) e;
    })
    (search rules)
