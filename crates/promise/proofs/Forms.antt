-- What the file of a day has.
-- Assumes nothing.
use Rattle.std.proofs.Common.{◌≡◌, ◌⊎◌, ℕ, arith, true, List, [], ◌∷◌, ◌++◌, Some, refl, sym, ◌∙◌, ◌||◌, lit≤}
use Rattle.std.proofs.lemmas.List.Folds.{list_any-append}
use Rattle.std.proofs.lemmas.Grind.{flat_map-append}
use Rattle.std.specs.List.Sorted.{IsStrictlySortedBy}
use Rattle.digest.specs.declared.value.Digest.{Digest}
use Rattle.store.specs.declared.day.DayName.{DayName}
use Rattle.store.specs.State.{State, is_in, same_name}
use Rattle.dayfile.specs.Entries.{Entry, names_of}
use Rattle.dayfile.specs.Form.{day_file}
use Rattle.dayfile.specs.Limits.{AreFiles}
use Rattle.dayfile.specs.Stored.{HasFiles, IsDayOf}
use Rattle.days.specs.Machines.{Work, all_seen, with_file}
use Rattle.sweeper.specs.Pieces.{FoundHas, IsFound}
use Rattle.promise.proofs.Names.{in_cases, tests}
use Rattle.dayfile.proofs.OneForm.{one_form}

ruleset keep = (arith, tests)

-- a name is in two lists, one after the other, if it is in one of them
pub in_both : (n : Digest) (xs ys : List Digest) → is_in n (xs ++ ys) ≡ (is_in n xs || is_in n ys)
in_both n xs ys = list_any-append (same_name n) xs ys

-- a piece more is seen to
pub seen_more : (n x : Digest) (fs ns : List Digest) → is_in n (fs ++ (ns ++ x ∷ [])) ≡ true → (is_in n (fs ++ ns) ≡ true) ⊎ (n ≡ x)
seen_more n x fs ns h = let c = in_cases n x ns in grind (keep, in_both)

-- what files have was seen to, and a file that is added has just what was
pub seen_for_files : (n : Digest) (fs ns : List Digest) → is_in n fs ≡ true → is_in n (fs ++ ns) ≡ true
seen_for_files n fs ns h = grind (keep, in_both)

pub seen_for_file : (n : Digest) (c : Work) (e : Entry) → e.pieces ≡ c.seen → is_in n (all_seen (with_file e c)) ≡ is_in n (all_seen c)
seen_for_file n c e s = rw (flat_map-append {X = Entry} {A = Digest} (λ f. f.pieces) c.files (e ∷ []), s) (grind (keep, in_both))

-- These have no body for other proofs, so that `grind` leaves them whole.
-- A day may have these files.
pub Fit : List Entry → Type 0
Fit es = AreFiles es

pub to_fit : {es : List Entry} → AreFiles es → Fit es
unfolding Fit
to_fit a = a

pub from_fit : {es : List Entry} → Fit es → AreFiles es
unfolding Fit
from_fit f = f

pub are_no_files : AreFiles []
unfolding IsStrictlySortedBy
are_no_files = record { count = lit≤ tt; each = tt; rising = tt }

pub no_files : Fit []
unfolding Fit
no_files = are_no_files

-- these bytes are the file of a day of this name
pub IsForm : DayName → List ℕ → Type 0
IsForm d b = (es : List Entry) × IsDayOf d es b

pub to_form : (d : DayName) (es : List Entry) → Fit es → IsForm d (day_file d es)
unfolding Fit IsForm
to_form d es f = (es, (f, refl))

pub from_form : (d : DayName) (b : List ℕ) → IsForm d b → (es : List Entry) × IsDayOf d es b
unfolding IsForm
from_form d b f = f

-- and the day has this piece
pub Has : DayName → List ℕ → Digest → Type 0
Has d b n = (es : List Entry) × IsDayOf d es b × (is_in n (names_of es) ≡ true)

pub is_has : (d : DayName) (b : List ℕ) (es : List Entry) (n : Digest) → IsDayOf d es b → is_in n (names_of es) ≡ true → Has d b n
unfolding Has
is_has d b es n a m = (es, a, m)

pub file_has : (s : State) (d : DayName) (es : List Entry) (n : Digest) → HasFiles s d es → is_in n (names_of es) ≡ true → Has d (day_file d es) n
file_has s d es n h m = is_has d (day_file d es) es n (h.0, refl) m

-- so has any list of files whose day file they are
pub has_in : (d : DayName) (es : List Entry) {b : List ℕ} (n : Digest) → IsDayOf d es b → Has d b n → is_in n (names_of es) ≡ true
unfolding Has
has_in d es n (a, e) (fs, (c, f), m) = let g : fs ≡ es = one_form d fs es c a (sym f ∙ e) in rw g at m

pub has_then : (d : DayName) (es : List Entry) (n : Digest) → Fit es → Has d (day_file d es) n → is_in n (names_of es) ≡ true
unfolding Fit
has_then d es n f h = has_in d es n (f, refl) h

-- a day that can be found has it
pub found_has : (s : State) (d : DayName) (b : List ℕ) (n : Digest) → IsFound s d → s.days d ≡ Some b → Has d b n → FoundHas s n
unfolding Has
found_has s d b n i e (es, (a, f), m) = record { day = d; files = es; found = i; is_there = (a, rw f at e); has = m }
