-- What leaves the world of the system as it was.
-- Assumes nothing.
use Rattle.std.proofs.Common.{◌≡◌, ◌≢◌, ℕ, inl, inr, List, Ok, Err, Result, Vec, ap, refl, arith, Bool, true, false, nat_eq, vec_items}
use Rattle.std.proofs.lemmas.Grind.{common_steps}
use Rattle.std.specs.List.{slice_get}
use Rattle.std.specs.Option.{option_and_then}
use Rattle.std.specs.declared.alloc.Global.{Global}
use Rattle.cutting.specs.declared.refusal.Refusal.{Refusal}
use Rattle.store.specs.declared.day.DayName.{DayName}
use Rattle.store.specs.declared.memory.Memory.{Memory}
use Rattle.store.specs.Asking.{IsExact}
use Rattle.store.specs.Memories.{state_of}
use Rattle.store.specs.Requests.{ReadDay}
use Rattle.store.proofs.Exact.{read_day, refused}
use Rattle.days.specs.Backs.{Backs}
use Rattle.days.specs.Machines.{makes}
use Rattle.days.proofs.HadBack.{files_come_back}
use Rattle.sweeper.specs.Sweepers.{sweeping}
use Rattle.rehearsal.specs.declared.world.World.{World}
use Rattle.rehearsal.specs.Acts.{memory_does}
use Rattle.rehearsal.specs.Systems.{system_of}
use Rattle.rehearsal.specs.Worlds.{AtDay, DayRead, HasBack, OnlyStore, ReadsDay, makes_at}

-- the store in memory is exact
pub exact : IsExact state_of memory_does
exact s t q a h = h

-- the worlds are the same if the store holds the same, each machine makes the same, and the sweeper does the same
pub same_system : (w v : World) → state_of v.store ≡ state_of w.store → makes_at v ≡ makes_at w → sweeping v.sweeper ≡ sweeping w.sweeper → system_of v ≡ system_of w
same_system w v e f g = λ j. record { store = e j; makes = f j; sweeper = g j }

-- each machine makes what it made
pub make_same : (w v : World) → v.machines ≡ w.machines → makes_at v ≡ makes_at w
make_same w v e = λ j i. option_and_then makes (slice_get (vec_items (e j)) i)

pub all_same : (w v : World) (i : ℕ) → makes_at v i ≡ makes_at w i → ((j : ℕ) → j ≢ i → makes_at v j ≡ makes_at w j) → makes_at v ≡ makes_at w
all_same w v i here others = λ k j. at j k
  where
    at : (j : ℕ) → makes_at v j ≡ makes_at w j
    at j = go (nat_eq j i) refl
      where
        go : (b : Bool) → nat_eq j i ≡ b → makes_at v j ≡ makes_at w j
        go true e = let is : j ≡ i = grind (arith, common_steps, e) in rw is here
        go false e = others j (grind (arith, common_steps, e))

-- only the store was asked, and it holds what it held
pub store_same : (w v : World) → state_of v.store ≡ state_of w.store → OnlyStore w v → system_of v ≡ system_of w
store_same w v e (f, g) = same_system w v e (make_same w v f) (ap sweeping g)

-- so with what is done with a day
pub day_same : {A : Type 0} (go : DayName → Memory → Result A Refusal → Memory → Type 0) (i k : ℕ) (w v : World) (r : Result A Refusal) →
    ((d : DayName) → go d w.store r v.store → state_of v.store ≡ state_of w.store) → AtDay go i k w r v → system_of v ≡ system_of w
day_same go i k w v r same (inl (below, h, o)) = store_same w v (same (record { machine = i; number = k }) h) o
day_same go i k w v r same (inr h) = ap system_of h.2

-- a day is read
day_read : (d : DayName) (s : Memory) (r : Result (Vec ℕ Global) Refusal) (t : Memory) → DayRead d s r t → state_of t ≡ state_of s
day_read d s (Ok b) t h = (read_day (state_of s) (state_of t) d _ h).0
day_read d s (Err r) t (inl h) = refused (state_of s) (state_of t) (ReadDay d) r h
day_read d s (Err r) t (inr h) = (read_day (state_of s) (state_of t) d _ h.0).0

pub reads_same : (i k : ℕ) (w v : World) (r : Result (Vec ℕ Global) Refusal) → ReadsDay i k w r v → system_of v ≡ system_of w
reads_same i k w v r h = day_same DayRead i k w v r (λ d. day_read d w.store r v.store) h

-- a file is had back
pub back_same : (i k : ℕ) (path : List ℕ) (w v : World) (r : Result (Vec ℕ Global) Refusal) → HasBack i k path w r v → system_of v ≡ system_of w
back_same i k path w v r h = day_same (λ d s a t. Backs memory_does d path s a t) i k w v r (λ d x. (files_come_back memory_does state_of exact).unchanged d path w.store v.store r x) h
