-- What the sweeper may do to a store, step by step. A look, a note and a decision are one step each, as if all that they ask for were answered in one moment; a machine may do something between any two steps.
-- Assumes nothing.
use Rattle.std.specs.Prelude.{◌≡◌, ◌⊎◌, ℕ, ◌<◌, true, false, List, [], ◌∷◌, None, IsSome}
use Rattle.digest.specs.declared.value.Digest.{Digest}
use Rattle.store.specs.declared.sweep.Noted.{Noted}
use Rattle.store.specs.declared.sweep.Sweep.TheVariants as kept
use Rattle.store.specs.Effects.{put_aside, put_back, with_aside, with_own, with_sweep}
use Rattle.store.specs.State.{State, is_in, most_machines, most_names}
use Rattle.sweeper.specs.Pieces.{FoundHas, HasFinished, IsListed, IsRight, IsWhole}
use Rattle.sweeper.specs.Sweepers.{Sweeping, anew, ends, noted_of, puts, rests, up, waits}

-- the store, and what the sweeper does
pub record World : Type 0 where
  pub store : State
  pub sweeper : Sweeping

-- what a look finds that is to be put aside: all that is listed and in its place and that no day has; there is no look if a day is not whole
pub record Looked (s : State) (left : List Digest) : Type 0 where
  pub whole : IsWhole s
  pub spares : (n : Digest) → is_in n left ≡ true → IsListed s n × IsSome (s.place n) × (FoundHas s n → ⊥)
  pub all : (n : Digest) → IsListed s n → IsSome (s.place n) → (FoundHas s n → ⊥) → is_in n left ≡ true

-- what is decided: of all that is aside, what a day has, old or new, is to go back, if its bytes are right, and the rest is to be thrown away
pub record Decided (s : State) (back away : List Digest) : Type 0 where
  pub whole : IsWhole s
  pub goes_back : (n : Digest) → is_in n back ≡ true → (s.own n ≡ true) × FoundHas s n × IsRight n (s.aside n)
  pub goes_away : (n : Digest) → is_in n away ≡ true → (s.own n ≡ true) × IsSome (s.aside n) × (FoundHas s n → IsRight n (s.aside n) → ⊥)
  pub all : (n : Digest) → s.own n ≡ true → IsSome (s.aside n) → (is_in n back ≡ true) ⊎ (is_in n away ≡ true)

-- a step of the sweeper
pub data Step : World → World → Type 0 where
  -- it looks
  looks : (w : World) (left : List Digest) → w.sweeper ≡ rests → Looked w.store left → Step w (record { store = w.store; sweeper = puts left })
  -- it lists the next name, and puts the piece aside
  lists : (w : World) (n : Digest) (left : List Digest) → w.sweeper ≡ puts (n ∷ left) → w.store.own n ≡ false → w.store.names < most_names → Step w (record { store = with_own n w.store; sweeper = w.sweeper })
  puts_aside : (w : World) (n : Digest) (left : List Digest) → w.sweeper ≡ puts (n ∷ left) → w.store.own n ≡ true →
      Step w (record { store = (put_aside n (w.store.place n) w.store).1; sweeper = puts left })
  -- when all is aside it notes the highest number of each machine
  notes : (w : World) (h : Noted) → w.sweeper ≡ puts [] → ((i : ℕ) → i < most_machines → noted_of h i ≡ w.store.highest i) →
      Step w (record { store = with_sweep (kept.Waits h) w.store; sweeper = waits h })
  -- it decides when every machine on the list has a day in the store above its noted number
  decides : (w : World) (h : Noted) (back away : List Digest) → w.sweeper ≡ waits h → ((i : ℕ) → i < most_machines → w.store.machines i ≡ true → HasFinished w.store i (noted_of h i)) →
      Decided w.store back away → Step w (record { store = with_sweep kept.Ends w.store; sweeper = ends back away })
  -- or anew, after a stop
  decides_anew : (w : World) (back away : List Digest) → w.sweeper ≡ anew → Decided w.store back away → Step w (record { store = with_sweep kept.Ends w.store; sweeper = ends back away })
  -- it puts back one after the other, and then throws away one after the other
  puts_back : (w : World) (n : Digest) (back away : List Digest) → w.sweeper ≡ ends (n ∷ back) away →
      Step w (record { store = (put_back n (w.store.aside n) w.store).1; sweeper = ends back away })
  throws : (w : World) (n : Digest) (away : List Digest) → w.sweeper ≡ ends [] (n ∷ away) → Step w (record { store = with_aside n None w.store; sweeper = ends [] away })
  -- then it rests
  rests_again : (w : World) → w.sweeper ≡ ends [] [] → Step w (record { store = with_sweep kept.Rests w.store; sweeper = rests })
  -- it stops at any moment, and comes up with what is kept
  stops : (w : World) → Step w (record { store = w.store; sweeper = up w.store.sweep })
