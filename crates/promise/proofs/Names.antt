-- What tells names apart, in the form that `grind` takes.
-- Assumes nothing.
use Rattle.std.proofs.Common.{◌≡◌, List, [], ◌∷◌, ◌++◌, arith, ◌⊎◌, inl, inr, Bool, true, false, refl, Decides}
use Rattle.std.proofs.lemmas.Bool.Decides.{not_from_Decides, nat_tests}
use Rattle.digest.specs.declared.value.Digest.{Digest}
use Rattle.store.specs.declared.day.DayName.{DayName}
use Rattle.store.specs.declared.listing.Listing.{Listing}
use Rattle.store.specs.State.{is_in, same_day, same_listing, same_name}
use Rattle.store.proofs.Equality.{days_decide, listings_decide, names_decide}

-- a test says yes and it is so, or no and it is not
abbrev pub Tells : Bool → Type 0 → Type 0
Tells r P = ((r ≡ true) × P) ⊎ ((r ≡ false) × (P → ⊥))

tells : {P : Type 0} (r : Bool) → Decides r P → Tells r P
tells true d = inl (refl, d.0 refl)
tells false d = inr (refl, not_from_Decides false d refl)

-- so tell the tests on names
pub name_tells : (x y : Digest) → Tells (same_name x y) (x ≡ y)
name_tells x y = tells (same_name x y) (names_decide x y)

pub day_tells : (x y : DayName) → Tells (same_day x y) (x ≡ y)
day_tells x y = tells (same_day x y) (days_decide x y)

pub listing_tells : (x y : Listing) → Tells (same_listing x y) (x ≡ y)
listing_tells x y = tells (same_listing x y) (listings_decide x y)

-- all the tests, for `grind`
pub ruleset tests = (nat_tests, name_tells, day_tells, listing_tells)

-- a list with one name more
pub in_cases : (n x : Digest) (ps : List Digest) → is_in n (ps ++ x ∷ []) ≡ true → (is_in n ps ≡ true) ⊎ (n ≡ x)
in_cases n x [] h = grind (arith, tests)
in_cases n x (y ∷ ps) h = let ih = in_cases n x ps in grind (arith, tests)
