-- What the steps of the sweeper have done, on a store that does what its requests say.
-- Assumes nothing.
use Rattle.std.specs.Prelude.{◌≡◌, ◌⊎◌, ℕ, ◌<◌, true, false, List, [], ◌∷◌, length, Some, None, Ok, Err, Result, IsSome}
use Rattle.cutting.specs.declared.refusal.Refusal.{Refusal}
use Rattle.cutting.specs.declared.refusal.Refusal.TheVariants.{BadDay, NotAtThatPoint, TooManyNames, Unfinished}
use Rattle.cutting.specs.Refusals.{number_of}
use Rattle.digest.specs.declared.value.Digest.{Digest}
use Rattle.store.specs.declared.sweep.Noted.{Noted}
use Rattle.store.specs.declared.sweep.Sweep.TheVariants as kept
use Rattle.store.specs.Asking.{Doing, IsExact}
use Rattle.store.specs.Effects.{with_sweep}
use Rattle.store.specs.State.{State, most_machines, most_names}
use Rattle.sweeper.specs.declared.done.Done.{Done}
use Rattle.sweeper.specs.declared.done.Done.TheVariants as done
use Rattle.sweeper.specs.Pieces.{HasFinished, IsWhole}
use Rattle.sweeper.specs.Steps.{Decides, Looks, Nexts, Notes, PutsAside}
use Rattle.sweeper.specs.Sweepers.{Sweeping, anew, decides_now, ends, is_ending, is_over, is_resting, noted_of, puts, rests, waits}
use Rattle.sweeper.specs.System.{Decided, Looked}

-- every machine on the list has a day in the store above its noted number
abbrev pub AllHaveFinished : State → Noted → Type 0
AllHaveFinished s h = (i : ℕ) → i < most_machines → s.machines i ≡ true → HasFinished s i (noted_of h i)

-- it may decide: it waits, and they have, or it is to decide anew
abbrev pub MayDecide : State → Sweeping → Type 0
MayDecide s old = ((h : Noted) × (old ≡ waits h) × AllHaveFinished s h) ⊎ (old ≡ anew)

-- days, numbers and the list of machines stay, and so does what lies under any other name; of lists, and of what is kept of the sweeper, nothing is said here
pub record OnlyMoves (n : Digest) (s t : State) : Type 0 where
  pub days : t.days ≡ s.days
  pub highest : t.highest ≡ s.highest
  pub machines : t.machines ≡ s.machines
  pub other_places : (q : Digest) → (q ≡ n → ⊥) → t.place q ≡ s.place q
  pub other_asides : (q : Digest) → (q ≡ n → ⊥) → t.aside q ≡ s.aside q

-- after a turn it goes on with these, if any are left; and if none is, it rests
abbrev pub GoesOn : List Digest → List Digest → Sweeping → Type 0
GoesOn back away new = ((is_over (back, away) ≡ false) × (new ≡ ends back away)) ⊎ ((back ≡ []) × (away ≡ []) × (new ≡ rests))

module _ {S : Type 0} (does : Doing S) where
  -- any step
  abbrev pub Steps : Sweeping → S → Result Done Refusal → Sweeping → S → Type 0
  Steps old s a new t = Looks does old s a new t ⊎ (PutsAside does old s a new t ⊎ (Notes does old s a new t ⊎ (Decides does old s a new t ⊎ Nexts does old s a new t)))

  pub record Promise (holds : S → State) : Type 0 where
    -- a look changes nothing in the store, and finds just what is to be put aside
    pub looked : (old new : Sweeping) (s t : S) (k : ℕ) → Looks does old s (Ok (done.Looked k)) new t →
        (old ≡ rests) × (holds t ≡ holds s) × (left : List Digest) × (new ≡ puts left) × (k ≡ length left) × Looked (holds s) left
    -- a piece that is put aside is the first that was left; it is listed; it is not in its place any more, and what lay there lies aside
    pub put_aside : (old new : Sweeping) (s t : S) (n : Digest) → PutsAside does old s (Ok (done.PutAside n)) new t →
        (left : List Digest) × (old ≡ puts (n ∷ left)) × (new ≡ puts left) × OnlyMoves n (holds s) (holds t) × ((holds t).own n ≡ true)
        × ((holds t).place n ≡ None) × (IsSome ((holds s).place n) → (holds t).aside n ≡ (holds s).place n)
    -- a note is taken when all is aside, of the highest number of every machine, and is kept
    pub noted : (old new : Sweeping) (s t : S) → Notes does old s (Ok done.Noted) new t →
        (old ≡ puts []) × (h : Noted) × (new ≡ waits h) × (holds t ≡ with_sweep (kept.Waits h) (holds s)) × ((i : ℕ) → i < most_machines → noted_of h i ≡ (holds s).highest i)
    -- a decision is taken when it may be, and moves nothing; where nothing is aside, it rests
    pub decided : (old new : Sweeping) (s t : S) (b a : ℕ) → Decides does old s (Ok (done.Decided b a)) new t →
        MayDecide (holds s) old × (back : List Digest) × (away : List Digest) × (b ≡ length back) × (a ≡ length away) × Decided (holds s) back away
        × (((back ≡ []) × (away ≡ []) × (new ≡ rests) × (holds t ≡ with_sweep kept.Rests (holds s))) ⊎ ((is_over (back, away) ≡ false) × (new ≡ ends back away) × (holds t ≡ with_sweep kept.Ends (holds s))))
    -- a piece that is put back is the first that goes back; what lay aside is in its place, and no longer aside
    pub put_back : (old new : Sweeping) (s t : S) (n : Digest) → Nexts does old s (Ok (done.PutBack n)) new t →
        (back : List Digest) × (away : List Digest) × (old ≡ ends (n ∷ back) away) × OnlyMoves n (holds s) (holds t)
        × ((holds t).aside n ≡ None) × (IsSome ((holds s).aside n) → (holds t).place n ≡ (holds s).aside n) × GoesOn back away new
    -- a piece that is thrown away is the first that goes away, when all is back that goes back; it is no longer aside, and its place stays as it is
    pub thrown_away : (old new : Sweeping) (s t : S) (n : Digest) → Nexts does old s (Ok (done.ThrownAway n)) new t →
        (away : List Digest) × (old ≡ ends [] (n ∷ away)) × OnlyMoves n (holds s) (holds t) × ((holds t).aside n ≡ None) × ((holds t).place n ≡ (holds s).place n) × GoesOn [] away new
    -- a step that is refused by a number changes nothing
    pub refused : (old new : Sweeping) (s t : S) (r : Refusal) (k : ℕ) → number_of r ≡ Some k → Steps old s (Err r) new t → (holds t ≡ holds s) × (new ≡ old)
    -- a look is refused by 2 only where the days are not whole, and by 4 only where it does not rest, and they are; it is refused by no other number
    pub look_refused : (old new : Sweeping) (s t : S) (r : Refusal) (k : ℕ) → number_of r ≡ Some k → Looks does old s (Err r) new t →
        ((r ≡ BadDay) × (IsWhole (holds s) → ⊥)) ⊎ ((r ≡ NotAtThatPoint) × (is_resting old ≡ false) × IsWhole (holds s))
    -- so is a decision, where it neither waits nor is to decide anew, or some machine has finished no day
    pub decide_refused : (old new : Sweeping) (s t : S) (r : Refusal) (k : ℕ) → number_of r ≡ Some k → Decides does old s (Err r) new t →
        ((r ≡ BadDay) × (IsWhole (holds s) → ⊥))
        ⊎ (IsWhole (holds s)
        × (((r ≡ NotAtThatPoint) × (decides_now old ≡ false)) ⊎ ((r ≡ Unfinished) × (h : Noted) × (old ≡ waits h) × (AllHaveFinished (holds s) h → ⊥))))
    -- putting aside is refused where nothing is left to put aside, or the lists are full; and ending a sweep where none is ended
    pub put_aside_refused : (old new : Sweeping) (s t : S) (r : Refusal) (k : ℕ) → number_of r ≡ Some k → PutsAside does old s (Err r) new t →
        ((r ≡ NotAtThatPoint) × ((n : Digest) (left : List Digest) → old ≡ puts (n ∷ left) → ⊥))
        ⊎ ((r ≡ TooManyNames) × (n : Digest) × (left : List Digest) × (old ≡ puts (n ∷ left)) × ((holds s).own n ≡ false) × ((holds s).names < most_names → ⊥))
    pub next_refused : (old new : Sweeping) (s t : S) (r : Refusal) (k : ℕ) → number_of r ≡ Some k → Nexts does old s (Err r) new t → (r ≡ NotAtThatPoint) × (is_ending old ≡ false)
    pub note_refused : (old new : Sweeping) (s t : S) (r : Refusal) (k : ℕ) → number_of r ≡ Some k → Notes does old s (Err r) new t → (r ≡ NotAtThatPoint) × (old ≡ puts [] → ⊥)

  -- this is so on every exact store
  abbrev pub Promised : Type 0
  Promised = (holds : S → State) → IsExact holds does → Promise holds
