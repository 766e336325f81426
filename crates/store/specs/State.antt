-- What a store holds.
-- Assumes nothing.
use Rattle.std.specs.Prelude.{ℕ, Bool, false, List, None, Option, nat_eq}
use Rattle.std.specs.Cmp.Lexicographic.{slice_cmp}
use Rattle.std.specs.List.{list_any}
use Rattle.std.specs.Ordering.{is_eq, nat_cmp, ordering_then}
use Rattle.digest.specs.declared.value.Digest.{Digest}
use Rattle.store.specs.declared.day.DayName.{DayName}
use Rattle.store.specs.declared.listing.Listing.{Listing}
use Rattle.store.specs.declared.sweep.Sweep.{Sweep}
use Rattle.store.specs.declared.sweep.Sweep.TheVariants.{Rests}

-- a piece has at most so many bytes, and the lists so many names together
abbrev pub most_in_piece : ℕ
most_in_piece = 65536

abbrev pub most_names : ℕ
most_names = 262144

-- no day has a higher number
abbrev pub last_number : ℕ
last_number = 4294967295

-- so many numbers of machines there are, from 0 on
abbrev pub most_machines : ℕ
most_machines = 64

-- Whether two names of pieces are one; two names of days; two entries of lists. That each tells whether the two are equal is proved.
abbrev pub same_name : Digest → Digest → Bool
same_name x y = is_eq (slice_cmp nat_cmp x.bytes y.bytes)

abbrev pub same_day : DayName → DayName → Bool
same_day x y = is_eq (ordering_then (nat_cmp x.machine y.machine) (nat_cmp x.number y.number))

abbrev pub same_listing : Listing → Listing → Bool
same_listing x y = is_eq (ordering_then (nat_cmp x.machine y.machine) (slice_cmp nat_cmp x.name.bytes y.name.bytes))

-- whether a name is in a list
abbrev pub is_in : Digest → List Digest → Bool
is_in n ns = list_any (same_name n) ns

-- all that a store holds
pub record State : Type 0 where
  -- the bytes that lie in the place of a name, and aside, whether they are of that name or not
  pub place : Digest → Option (List ℕ)
  pub aside : Digest → Option (List ℕ)
  -- whether a machine has a name in its list
  pub listed : Listing → Bool
  -- whether the sweeper has a name in its list
  pub own : Digest → Bool
  -- how many names all lists have together
  pub names : ℕ
  -- the bytes that lie under the name of a day, whether they are the file of such a day or not
  pub days : DayName → Option (List ℕ)
  -- the highest number that a machine ever raised, or 0
  pub highest : ℕ → ℕ
  -- whether a machine is on the list of machines
  pub machines : ℕ → Bool
  -- what is kept of what the sweeper does
  pub sweep : Sweep

-- nothing is there, the sweeper rests, and just these machines are on the list of machines
abbrev pub empty : List ℕ → State
empty list =
    record {
      place = λ n. None;
      aside = λ n. None;
      listed = λ l. false;
      own = λ n. false;
      names = 0;
      days = λ d. None;
      highest = λ m. 0;
      machines = λ m. list_any (nat_eq m) list;
      sweep = Rests;
    }
