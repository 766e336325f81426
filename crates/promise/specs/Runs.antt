-- Any steps, one after the other, and whole sweeps.
-- Assumes nothing.
use Rattle.std.specs.Prelude.{◌≡◌, ◌⊎◌, ℕ, suc, List}
use Rattle.digest.specs.declared.value.Digest.{Digest}
use Rattle.store.specs.declared.sweep.Noted.{Noted}
use Rattle.sweeper.specs.Sweepers.{anew, ends, puts, rests, waits}
use Rattle.promise.specs.System.{Step, World, start}

-- some steps lead from one world to another
pub data Run : World → World → Type 0 where
  still : {w : World} → Run w w
  onward : {u v w : World} → Run u v → Step v w → Run u w

-- so do at most n
pub data Within : ℕ → World → World → Type 0 where
  still : {n : ℕ} {w : World} → Within n w w
  onward : {n : ℕ} {u v w : World} → Within n u v → Step v w → Within (suc n) u w

-- some steps lead there from the beginning, with these machines on the list
abbrev pub Reached : List ℕ → World → Type 0
Reached ms w = Run (start ms) w

-- some steps lead from one world to another, and P holds of every world on the way, both ends too, and Q of every step
pub data Through (P : World → Type 0) (Q : World → World → Type 0) : World → World → Type 0 where
  here : {w : World} → P w → Through P Q w w
  further : {u v w : World} → Through P Q u v → Step v w → Q v w → P w → Through P Q u w

-- the sweeper puts aside; waits; ends its sweep
abbrev pub PutsAside : World → Type 0
PutsAside w = (left : List Digest) × (w.sweeper ≡ puts left)

abbrev pub Waits : World → Type 0
Waits w = (h : Noted) × (w.sweeper ≡ waits h)

abbrev pub EndsSweep : World → Type 0
EndsSweep w = (back away : List Digest) × (w.sweeper ≡ ends back away)

-- by a step from one world to the next it decides anew, having stopped while it ended its sweep
abbrev pub DecidesAnew : World → World → Type 0
DecidesAnew v w = (v.sweeper ≡ anew) × EndsSweep w

-- A whole sweep, from rest to rest: the sweeper looks and puts aside, and does not stop meanwhile; it notes and waits; it decides, ends its sweep and rests. While it waits it may stop; while it ends its sweep it may, too, and then decides anew, any number of times. P holds of the world in which it looks and of each in which it decides, and Q of every step but those four by which it looks, notes, decides for the first time, and rests.
pub record WholeSweep (P : World → Type 0) (Q : World → World → Type 0) (u v : World) : Type 0 where
  pub looked : World
  pub full : World
  pub noted : World
  pub ready : World
  pub decided : World
  pub over : World
  pub rested : u.sweeper ≡ rests
  pub at_look : P u
  pub looks : Step u looked
  pub puts_aside : Through PutsAside Q looked full
  pub notes : Step full noted
  pub waits : Through Waits Q noted ready
  pub at_decision : P ready
  pub decides : Step ready decided
  pub ends : Through (λ w. EndsSweep w ⊎ (w.sweeper ≡ anew)) (λ x y. Q x y × (DecidesAnew x y → P x)) decided over
  pub last : Step over v
  pub rests : v.sweeper ≡ rests
