-- What is in a store, in order.
-- Assumes nothing.
use Rattle.std.specs.Prelude.{◌≡◌, ℕ, Bool, List, length, map, vec_items, Option}
use Rattle.std.specs.declared.cmp.Ordering.{Ordering}
use Rattle.std.specs.List.{list_any}
use Rattle.std.specs.List.Sorted.{IsStrictlySortedBy}
use Rattle.std.specs.Map.{keys_of, lookup}
use Rattle.std.specs.Option.{option_map}
use Rattle.std.specs.Ordering.{eq_by_cmp}
use Rattle.digest.specs.declared.value.Digest.{Digest}
use Rattle.store.specs.declared.contents.Contents.{Contents}
use Rattle.store.specs.declared.contents.Lying.{Lying}
use Rattle.store.specs.declared.contents.ListedDay.{ListedDay}
use Rattle.store.specs.declared.day.DayName.{DayName}
use Rattle.store.specs.declared.listing.Listing.{Listing}
use Rattle.store.specs.Memories.{day_cmp, listing_cmp, name_cmp}
use Rattle.store.specs.State.{State, is_in, same_listing}

-- a table of all that there is: each key once, in order, beside what there is at it, and no other key
pub record Lists {K V : Type 0} (cmp : K → K → Ordering) (there : K → Option V) (table : List (K × V)) : Type 0 where
  pub in_order : IsStrictlySortedBy cmp (keys_of table)
  pub all : (k : K) → lookup (eq_by_cmp cmp k) table ≡ there k

-- the names of one spot, each with how many bytes lie there
abbrev pub ListsPieces : (Digest → Option (List ℕ)) → List Lying → Type 0
ListsPieces lies xs = Lists name_cmp (λ n. option_map length (lies n)) (map (λ x. (x.name, x.length)) xs)

-- the days, each with the bytes that lie under its name
abbrev pub ListsDays : (DayName → Option (List ℕ)) → List ListedDay → Type 0
ListsDays days xs = Lists day_cmp days (map (λ x. (x.name, vec_items x.file)) xs)

-- the names in the lists of the machines: each once, in order, and no other
pub record ListsNames (listed : Listing → Bool) (xs : List Listing) : Type 0 where
  pub in_order : IsStrictlySortedBy listing_cmp xs
  pub all : (l : Listing) → list_any (same_listing l) xs ≡ listed l

-- the names in the sweeper's list, likewise
pub record ListsOwn (own : Digest → Bool) (xs : List Digest) : Type 0 where
  pub in_order : IsStrictlySortedBy name_cmp xs
  pub all : (n : Digest) → is_in n xs ≡ own n

-- all pieces, names in lists and days of a store
pub record ListsAll (s : State) (c : Contents) : Type 0 where
  pub place : ListsPieces s.place (vec_items c.place)
  pub aside : ListsPieces s.aside (vec_items c.aside)
  pub listed : ListsNames s.listed (vec_items c.listed)
  pub own : ListsOwn s.own (vec_items c.own)
  pub days : ListsDays s.days (vec_items c.days)
