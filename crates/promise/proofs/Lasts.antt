-- A kept day has its files as long as it is kept.
-- Assumes nothing.
use Rattle.std.proofs.Common.{◌≡◌, true, List, ℕ, Some, None, Option, refl, ap, ◌∙◌}
use Rattle.digest.specs.declared.value.Digest.{Digest}
use Rattle.store.specs.State.{is_in}
use Rattle.dayfile.specs.Entries.{names_of}
use Rattle.dayfile.specs.Stored.{HasFiles}
use Rattle.sweeper.specs.Pieces.{IsThere}
use Rattle.promise.specs.Promise.{DaysLast, OneForAll}
use Rattle.promise.specs.Runs.{still}
use Rattle.promise.proofs.Kept.{days_are_whole}
use Rattle.promise.proofs.Numbers.{numbers_are_used_once}
use Rattle.promise.proofs.Way.{joined}

pub days_last : DaysLast
days_last ms a v reached w run d es h is = has (w.store.days d) refl
  where
    once : OneForAll v v w
    once = numbers_are_used_once ms a v reached v w still run

    Lasts : Type 0
    Lasts = HasFiles w.store d es × ((n : Digest) → is_in n (names_of es) ≡ true → IsThere w.store n)

    whole : HasFiles w.store d es → Lasts
    whole f = (f, λ n m. days_are_whole ms a w (joined reached run) n (d, es, f, m))

    has : (o : Option (List ℕ)) → w.store.days d ≡ o → Lasts
    has (Some b) e = whole (h.0, e ∙ ap Some (once.same d _ b h.1 e))
    has None e = absurd cc
