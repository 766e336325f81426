-- What machines may do to a store, step by step, in any mixture.
-- Assumes nothing.
use Rattle.std.specs.Prelude.{◌≡◌, ℕ, suc, ◌+◌, ◌<◌, ◌≤◌, true, false, cond, ◌++◌, ◌∷◌, [], List, length, Some, None, Option, nat_eq, IsSome}
use Rattle.digest.specs.declared.value.Digest.{Digest}
use Rattle.digest.specs.Digests.{digest_of}
use Rattle.store.specs.declared.day.DayName.{DayName}
use Rattle.dayfile.specs.Entries.{Entry}
use Rattle.dayfile.specs.Form.{day_file}
use Rattle.dayfile.specs.Limits.{AreFiles}
use Rattle.store.specs.Effects.{with_day, with_highest, with_listing, with_place}
use Rattle.store.specs.State.{State, last_number, most_in_piece, most_names}
use Rattle.days.specs.Machines.{Work, forgetting, new_day, with_file, with_number, with_piece}

-- the store, and what each machine makes: no day, or one
pub record World : Type 0 where
  pub store : State
  pub makes : ℕ → Option Work

-- machine i makes this, and each other what it made
abbrev pub put : ℕ → Option Work → (ℕ → Option Work) → ℕ → Option Work
put i new makes j = cond (nat_eq j i) new (makes j)

-- the world with this in the store, and with machine i making this
abbrev pub world : State → ℕ → Option Work → World → World
world s i new w = record { store = s; makes = put i new w.makes }

-- machine i is on the list of machines and makes this day, whose number is not raised yet
pub record Makes (w : World) (i : ℕ) (d : Work) : Type 0 where
  pub on_list : w.store.machines i ≡ true
  pub makes : w.makes i ≡ Some d
  pub no_number : d.number ≡ None

-- a step of some machine, or a day that is let go
pub data Step : World → World → Type 0 where
  -- a machine begins a day
  begins : (w : World) (i : ℕ) → w.store.machines i ≡ true → w.makes i ≡ None → Step w (world w.store i (Some new_day) w)
  -- a piece whose very bytes lie in its place counts as seen to, and nothing is sent
  finds : (w : World) (i : ℕ) (d : Work) (p : List ℕ) → Makes w i d → length p ≤ most_in_piece → w.store.place (digest_of p) ≡ Some p → Step w (world w.store i (Some (with_piece (digest_of p) d)) w)
  -- Before a machine writes a piece whose name is not in its list, it adds the name to its list. It may do both also for a piece that lies in its place by then, since it has looked before.
  lists : (w : World) (i : ℕ) (d : Work) (n : Digest) → Makes w i d → w.store.listed (record { machine = i; name = n }) ≡ false → w.store.names < most_names →
      Step w (world (with_listing (record { machine = i; name = n }) w.store) i (Some d) w)
  -- a piece that is written counts as seen to
  writes : (w : World) (i : ℕ) (d : Work) (p : List ℕ) → Makes w i d → length p ≤ most_in_piece → w.store.listed (record { machine = i; name = digest_of p }) ≡ true →
      Step w (world (with_place (digest_of p) (Some p) w.store) i (Some (with_piece (digest_of p) d)) w)
  -- a file whose pieces are those that it has seen to for it is added to the day
  adds : (w : World) (i : ℕ) (d : Work) (e : Entry) → Makes w i d → e.pieces ≡ d.seen → AreFiles (d.files ++ e ∷ []) → Step w (world w.store i (Some (with_file e d)) w)
  -- or it is not, and what was seen to for it counts no more
  forgets : (w : World) (i : ℕ) (d : Work) → Makes w i d → Step w (world w.store i (Some (forgetting d)) w)
  -- first its number is raised
  raises : (w : World) (i : ℕ) (d : Work) → Makes w i d → w.store.highest i < last_number →
      Step w (world (with_highest i (w.store.highest i + 1) w.store) i (Some (with_number (w.store.highest i + 1) d)) w)
  -- and then the day has its name: its file lies under it
  names : (w : World) (i : ℕ) (d : Work) (k : ℕ) → w.store.machines i ≡ true → w.makes i ≡ Some d → d.number ≡ Some k → w.store.days (record { machine = i; number = k }) ≡ None →
      Step w (world (with_day (record { machine = i; number = k }) (Some (day_file (record { machine = i; number = k }) d.files)) w.store) i None w)
  -- a machine breaks off, or comes up after a stop
  breaks : (w : World) (i : ℕ) → Step w (world w.store i None w)
  -- a day is let go
  lets_go : (w : World) (day : DayName) → IsSome (w.store.days day) → Step w (record w { store = with_day day None w.store })

-- some steps, one after the other: at most n of them
pub data Within : ℕ → World → World → Type 0 where
  still : {n : ℕ} {w : World} → Within n w w
  onward : {n : ℕ} {u v w : World} → Within n u v → Step v w → Within (suc n) u w
