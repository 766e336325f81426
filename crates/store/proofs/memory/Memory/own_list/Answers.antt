use Rattle.std.proofs.Common.{◌≡◌, vec_items, rules, sym, subst, ap}
use Rattle.std.proofs.lemmas.Result.{IfOk-weaker}
use Rattle.std.specs.List.Sorted.{IsStrictlySortedBy}
use Rattle.store.specs.Memories.{name_cmp}
use Rattle.store.specs.State.{is_in}
use Rattle.store.proofs.memory.Memory.own_list.Goals as goal

pub returns : goal.returns
returns c =
    IfOk-weaker c.collect.result (λ found. vec_items found ≡ c.args.self.now.own.keys) _
    (λ found e. record {
      in_order = subst (IsStrictlySortedBy name_cmp) (sym e) c.iter.ensures.ordered;
      all = λ n. ap (is_in n) e;
    })
    (search rules)
