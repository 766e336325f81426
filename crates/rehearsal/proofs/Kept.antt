-- The days of a store, as they are shown, one after the other.
-- Assumes nothing.
use Rattle.std.proofs.Common.{List, [], ◌∷◌, ◌++◌}
use Rattle.store.specs.declared.contents.ListedDay.{ListedDay}
use Rattle.rehearsal.specs.declared.shown.KeptDay.{KeptDay}
use Rattle.rehearsal.specs.Shows.{ShowsDay, ShowsKept}

pub show_none : ShowsKept [] []
unfolding ShowsKept
show_none = tt

-- a day more
pub show_more : (xs : List ListedDay) (ys : List KeptDay) (x : ListedDay) (y : KeptDay) → ShowsKept xs ys → ShowsDay x y → ShowsKept (xs ++ x ∷ []) (ys ++ y ∷ [])
unfolding ShowsKept
show_more [] [] x y h d = (d, tt)
show_more (a ∷ xs) (b ∷ ys) x y h d = (h.0, show_more xs ys x y h.1 d)
show_more [] (b ∷ ys) x y h d = absurd h
show_more (a ∷ xs) [] x y h d = absurd h
