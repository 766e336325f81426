-- What the store in memory holds.
-- Assumes nothing.
use Rattle.std.specs.Prelude.{◌+◌, vec_items, length}
use Rattle.std.specs.Option.{option_and_then, option_map, unwrap_or}
use Rattle.std.specs.Cmp.Lexicographic.{slice_cmp}
use Rattle.std.specs.Ordering.{nat_cmp, ordering_then}
use Rattle.std.specs.declared.cmp.Ordering.{Ordering}
use Rattle.std.specs.BTreeMap as tree
use Rattle.std.specs.BTreeSet as sorted
use Rattle.digest.specs.declared.value.Digest.{Digest}
use Rattle.store.specs.declared.day.DayName.{DayName}
use Rattle.store.specs.declared.listing.Listing.{Listing}
use Rattle.store.specs.declared.memory.Memory.{Memory}
use Rattle.store.specs.State.{State}

-- the orders in which the trees have names of pieces, names of days, and entries of lists
abbrev pub name_cmp : Digest → Digest → Ordering
name_cmp x y = slice_cmp nat_cmp x.bytes y.bytes

abbrev pub day_cmp : DayName → DayName → Ordering
day_cmp x y = ordering_then (nat_cmp x.machine y.machine) (nat_cmp x.number y.number)

abbrev pub listing_cmp : Listing → Listing → Ordering
listing_cmp x y = ordering_then (nat_cmp x.machine y.machine) (slice_cmp nat_cmp x.name.bytes y.name.bytes)

-- what the store in memory holds: of each name the copies that lie under it, and all else as its own tree has it
abbrev pub state_of : Memory → State
state_of m =
    record {
      place = λ n. option_and_then (λ c. option_map vec_items c.place) (tree.get name_cmp m.pieces n);
      aside = λ n. option_and_then (λ c. option_map vec_items c.aside) (tree.get name_cmp m.pieces n);
      listed = λ l. sorted.contains listing_cmp m.listed l;
      own = λ n. sorted.contains name_cmp m.own n;
      names = length m.listed.keys + length m.own.keys;
      days = λ d. option_map vec_items (tree.get day_cmp m.days d);
      highest = λ i. unwrap_or (tree.get nat_cmp m.highest i) 0;
      machines = λ i. sorted.contains nat_cmp m.machines i;
      sweep = m.sweep;
    }
