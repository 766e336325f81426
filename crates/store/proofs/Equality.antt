-- What tells two names apart: `same_name`, `same_day` and `same_listing` decide equality.
-- Assumes nothing.
use Rattle.std.proofs.Common.{◌≡◌, ℕ, ◌&&◌, Decides, Ordering, Less, Equal, Greater, arith, nat_eq, refl, ap}
use Rattle.std.specs.Ordering.{is_eq, nat_cmp, ordering_then}
use Rattle.std.proofs.lemmas.Bool.Decides.{Decides-and, Decides-at, Decides-eqb, Decides-like, nat_tests}
use Rattle.std.proofs.lemmas.Map.Text.{is_eq-slice_cmp}
use Rattle.std.proofs.lemmas.Slice.Eq.{bytes_eq-Decides}
use Rattle.digest.specs.declared.value.Digest.{Digest}
use Rattle.store.specs.declared.day.DayName.{DayName}
use Rattle.store.specs.declared.listing.Listing.{Listing}
use Rattle.store.specs.State.{same_day, same_listing, same_name}

pub is_eq_nat : (x y : ℕ) → is_eq (nat_cmp x y) ≡ nat_eq x y
is_eq_nat x y = grind (arith, nat_tests)

pub is_eq_then : (p q : Ordering) → is_eq (ordering_then p q) ≡ (is_eq p && is_eq q)
is_eq_then Less q = refl
is_eq_then Equal q = refl
is_eq_then Greater q = refl

numbers_decide : (x y : ℕ) → Decides (is_eq (nat_cmp x y)) (x ≡ y)
numbers_decide x y = Decides-at _ _ (is_eq_nat x y) (Decides-eqb x y)

pub names_decide : (x y : Digest) → Decides (same_name x y) (x ≡ y)
names_decide x y = Decides-like _ (λ e i. record { bytes = e i }) (ap (λ d. d.bytes)) (Decides-at _ _ (is_eq-slice_cmp x.bytes y.bytes) (bytes_eq-Decides x.bytes y.bytes))

pub days_decide : (x y : DayName) → Decides (same_day x y) (x ≡ y)
days_decide x y =
    Decides-like _ (λ e i. record { machine = e.0 i; number = e.1 i }) (λ e. (ap (λ d. d.machine) e, ap (λ d. d.number) e))
    (Decides-at _ _ (is_eq_then _ _) (Decides-and _ _ (numbers_decide x.machine y.machine) (numbers_decide x.number y.number)))

pub listings_decide : (x y : Listing) → Decides (same_listing x y) (x ≡ y)
listings_decide x y =
    Decides-like _ (λ e i. record { machine = e.0 i; name = e.1 i }) (λ e. (ap (λ l. l.machine) e, ap (λ l. l.name) e))
    (Decides-at _ _ (is_eq_then _ _) (Decides-and _ _ (numbers_decide x.machine y.machine) (names_decide x.name y.name)))
