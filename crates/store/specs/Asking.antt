-- What was asked of a store, and a store that does what its requests say.
-- Assumes nothing.
use Rattle.store.specs.Effects.{Does}
use Rattle.store.specs.Requests.{Request, Answer}
use Rattle.store.specs.State.{State}

-- what a store does: from one state a request is given an answer, and leaves another state
abbrev pub Doing : Type 0 → Type 1
Doing S = S → Request → Answer → S → Type 0

-- what this store does is what the requests' effects are, on what it holds; or memory is wanting, and it holds what it held
abbrev pub IsExact : {S : Type 0} → (S → State) → Doing S → Type 0
IsExact {S} holds does = (s t : S) (q : Request) (a : Answer) → does s q a t → Does (holds s) q a (holds t)
