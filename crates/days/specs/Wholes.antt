-- Making a whole day of the files that a source gives. Each is of machine i, which makes `old` before it and `new` after it, and leads the store from s to t and the source from x to y.
-- Assumes nothing.
use Rattle.std.specs.Prelude.{◌≡◌, ◌⊎◌, ℕ, List, [], ◌∷◌, ◌++◌, Some, None, Ok, Err, Option, Result}
use Rattle.cutting.specs.declared.refusal.Refusal.{Refusal}
use Rattle.store.specs.Asking.{Doing}
use Rattle.days.specs.declared.done.Done.{Done}
use Rattle.days.specs.Machines.{Work}
use Rattle.days.specs.Sources.{Giving}
use Rattle.days.specs.Steps.{Adds, Begins, Names, Raises}

module _ {S F : Type 0} (does : Doing S) (gives : Giving F) (i : ℕ) where
  -- files, each by its path and its bytes, are given and added, one after the other
  pub data AddsFiles (old : Option Work) (s : S) (x : F) : List (List ℕ × List ℕ) → Option Work → S → F → Type 0 where
    none : AddsFiles old s x [] old s x
    more : {fs : List (List ℕ × List ℕ)} {w v : Option Work} {m t : S} {y z : F} (f : List ℕ × List ℕ) (d : Done) → AddsFiles old s x fs w m y → gives y (Ok (Some f)) z → Adds does i f.0 f.1 w m (Ok d) v t →
        AddsFiles old s x (fs ++ f ∷ []) v t z

  -- so are all that the source has; or one of them is not given, or not added
  abbrev pub AddsAll : Option Work → S → F → Result (Option Work) Refusal → S → F → Type 0
  AddsAll old s x (Ok new) t y = (fs : List (List ℕ × List ℕ)) × (z : F) × AddsFiles old s x fs new t z × gives z (Ok None) y
  AddsAll old s x (Err r) t y =
      (fs : List (List ℕ × List ℕ)) × (w : Option Work) × (m : S) × (z : F) × AddsFiles old s x fs w m z
      × ((gives z (Err r) y × (t ≡ m)) ⊎ ((f : List ℕ × List ℕ) × (v : Option Work) × gives z (Ok (Some f)) y × Adds does i f.0 f.1 w m (Err r) v t))

  -- the number is raised, and the day is named; or one of these is not done
  abbrev pub RaisesAndNames : Option Work → S → Result Done Refusal → S → Type 0
  RaisesAndNames old s a t =
      ((r : Refusal) × (v : Option Work) × (a ≡ Err r) × Raises does i old s (Err r) v t)
      ⊎ ((c : Done) × (v : Option Work) × (m : S) × (new : Option Work) × Raises does i old s (Ok c) v m × Names does i v m a new t)

  -- all files are added, and then that is done; or they are not
  abbrev pub Finishes : Option Work → S → F → Result Done Refusal → S → F → Type 0
  Finishes old s x a t y =
      ((r : Refusal) × (a ≡ Err r) × AddsAll old s x (Err r) t y) ⊎ ((w : Option Work) × (m : S) × AddsAll old s x (Ok w) m y × RaisesAndNames w m a t)

  -- A whole day is made: the machine begins it, and then makes none, whether the day is named or something is refused.
  abbrev pub MakesDay : Option Work → S → F → Result Done Refusal → Option Work → S → F → Type 0
  MakesDay old s x a new t y =
      ((r : Refusal) × (a ≡ Err r) × Begins does i old s (Err r) new t × (y ≡ x))
      ⊎ ((c : Done) × (w : Option Work) × (m : S) × Begins does i old s (Ok c) w m × (new ≡ None) × Finishes w m x a t y)
