-- What each request does to what a store holds, and what is answered.
-- Assumes nothing.
use Rattle.std.specs.Prelude.{◌≡◌, ℕ, ◌+◌, ◌⊎◌, Bool, true, false, cond, List, Some, None, Option, is_some, nat_eq, nat_le}
use Rattle.std.specs.Map.{update}
use Rattle.cutting.specs.declared.refusal.Refusal.TheVariants.{DayIsThere, NoMemory, TooManyNames, Unknown}
use Rattle.digest.specs.declared.value.Digest.{Digest}
use Rattle.store.specs.declared.day.DayName.{DayName}
use Rattle.store.specs.declared.listing.Listing.{Listing}
use Rattle.store.specs.declared.piece.Spot.{Spot}
use Rattle.store.specs.declared.piece.Spot.TheVariants.{Place, Aside}
use Rattle.store.specs.declared.sweep.Sweep.{Sweep}
use Rattle.store.specs.Requests.{Request, HasMachine, Read, Enlist, Write, PutAside, PutBack, ThrowAway, Highest, Raise, NameDay, LetGo, NamesOf, OwnNames, EnlistOwn, ReadDay, Kept, Keep, Answer, Done, Told, Bytes, Number, Names, Sweeping, Refused}
use Rattle.store.specs.State.{State, is_in, most_names, same_day, same_listing, same_name}

-- what lies there under a name
abbrev pub lies : Spot → State → Digest → Option (List ℕ)
lies Place s n = s.place n
lies Aside s n = s.aside n

-- the store with these bytes in the place of a name, or with none; and with these aside
abbrev pub with_place : Digest → Option (List ℕ) → State → State
with_place n bytes s = record s { place = update same_name s.place n bytes }

abbrev pub with_aside : Digest → Option (List ℕ) → State → State
with_aside n bytes s = record s { aside = update same_name s.aside n bytes }

abbrev pub with_lying : Spot → Digest → Option (List ℕ) → State → State
with_lying Place n bytes s = with_place n bytes s
with_lying Aside n bytes s = with_aside n bytes s

-- with a name more in a list
abbrev pub with_listing : Listing → State → State
with_listing l s = record s { listed = λ q. cond (same_listing l q) true (s.listed q); names = s.names + 1 }

-- with a name more in the sweeper's list
abbrev pub with_own : Digest → State → State
with_own n s = record s { own = λ q. cond (same_name n q) true (s.own q); names = s.names + 1 }

-- with these bytes under the name of a day, or without such a day
abbrev pub with_day : DayName → Option (List ℕ) → State → State
with_day d file s = record s { days = update same_day s.days d file }

-- with this highest number of a machine
abbrev pub with_highest : ℕ → ℕ → State → State
with_highest m n s = record s { highest = λ q. cond (nat_eq m q) n (s.highest q) }

-- with this kept of what the sweeper does
abbrev pub with_sweep : Sweep → State → State
with_sweep x s = record s { sweep = x }

-- with a machine less on the list of machines
abbrev pub without_machine : ℕ → State → State
without_machine m s = record s { machines = λ q. cond (nat_eq m q) false (s.machines q) }

-- what lies in one spot goes to the other, whatever lay there before being gone; nothing is done where there is none
abbrev pub put_aside : Digest → Option (List ℕ) → State → Answer × State
put_aside n None s = (Told false, s)
put_aside n (Some b) s = (Told true, with_aside n (Some b) (with_place n None s))

abbrev pub put_back : Digest → Option (List ℕ) → State → Answer × State
put_back n None s = (Told false, s)
put_back n (Some b) s = (Told true, with_place n (Some b) (with_aside n None s))

-- a name is added to a list, where it is not in it and there is room
abbrev pub enlist : Bool → State → State → Answer × State
enlist there s t = cond there (Done, s) (cond (nat_le most_names s.names) (Refused TooManyNames, s) (Done, t))

-- What a request answers, and what it leaves. The names of lists may be told in any order: for these two, `Does` says what is told.
abbrev pub effect : State → Request → Answer × State
effect s (HasMachine m) = (Told (s.machines m), s)
effect s (Read spot n) = (Bytes (lies spot s n), s)
effect s (Enlist l) = enlist (s.listed l) s (with_listing l s)
effect s (Write n b) = (Done, with_place n (Some b) s)
effect s (PutAside n) = put_aside n (s.place n) s
effect s (PutBack n) = put_back n (s.aside n) s
effect s (ThrowAway n) = (Told (is_some (s.aside n)), with_aside n None s)
effect s (Highest m) = (Number (s.highest m), s)
effect s (Raise m n) = (Done, with_highest m n s)
effect s (NameDay d b) = cond (is_some (s.days d)) (Refused DayIsThere, s) (Done, with_day d (Some b) s)
effect s (LetGo d) = cond (is_some (s.days d)) (Done, with_day d None s) (Refused Unknown, s)
effect s (EnlistOwn n) = enlist (s.own n) s (with_own n s)
effect s (ReadDay d) = (Bytes (s.days d), s)
effect s Kept = (Sweeping s.sweep, s)
effect s (Keep x) = (Done, with_sweep x s)
effect s lists = (Done, s)

-- the requests that memory may be wanting for: those whose effect has something to keep, or to hand out
abbrev pub needs_memory : State → Request → Bool
needs_memory s (Read spot n) = is_some (lies spot s n)
needs_memory s (Enlist l) = cond (s.listed l) false (cond (nat_le most_names s.names) false true)
needs_memory s (Write n b) = true
needs_memory s (Raise m n) = true
needs_memory s (NameDay d b) = cond (is_some (s.days d)) false true
needs_memory s (EnlistOwn n) = cond (s.own n) false (cond (nat_le most_names s.names) false true)
needs_memory s (ReadDay d) = is_some (s.days d)
needs_memory s other = false

-- all names of a list are told, and no others; or there is no memory for them
abbrev pub Tells : (Digest → Bool) → Answer → Type 0
Tells has (Names ns) = (n : Digest) → is_in n ns ≡ has n
Tells has (Refused r) = r ≡ NoMemory
Tells has other = ⊥

-- from one state a request is given this answer, and leaves the other state: its effect, or that there is no memory, and then nothing is changed
abbrev pub Does : State → Request → Answer → State → Type 0
Does s (NamesOf m) a t = Tells (λ n. s.listed (record { machine = m; name = n })) a × (t ≡ s)
Does s OwnNames a t = Tells s.own a × (t ≡ s)
Does s q a t = (effect s q ≡ (a, t)) ⊎ ((needs_memory s q ≡ true) × (a ≡ Refused NoMemory) × (t ≡ s))
