-- What the steps of a machine have done, on a store that does what its requests say.
-- Assumes nothing.
use Rattle.std.specs.Prelude.{◌≡◌, ◌⊎◌, ℕ, ◌+◌, ◌∷◌, [], true, length, map, List, Some, Ok, Err, Option, Result}
use Rattle.cutting.specs.declared.refusal.Refusal.{Refusal}
use Rattle.cutting.specs.Refusals.{number_of}
use Rattle.digest.specs.Digests.{digest_of}
use Rattle.store.specs.State.{State, is_in}
use Rattle.days.specs.declared.done.Done.{Done}
use Rattle.days.specs.declared.done.Done.TheVariants.{Raised, Named}
use Rattle.days.specs.declared.done.Done.TheVariants as done
use Rattle.store.specs.Asking.{Doing}
use Rattle.days.specs.Machines.{Work, with_file}
use Rattle.days.specs.declared.done.Added.{Added}
use Rattle.dayfile.specs.Entries.{Entry}
use Rattle.dayfile.specs.Form.{day_file}
use Rattle.cutting.specs.Rule.{pieces}
use Rattle.cutting.specs.declared.refusal.Refusal.TheVariants.{TooManyNames}
use Rattle.digest.specs.declared.value.Digest.{Digest}
use Rattle.days.specs.Steps.{Adds, Begins, Breaks, Names, Raises, Sees, entry, place_path}
use Rattle.store.specs.Asking.{IsExact}

-- a whole file in a day
abbrev pub file_entry : List ℕ → List ℕ → Entry
file_entry path file = record { path = path; length = length file; pieces = map digest_of (pieces file) }

-- under each of these names right bytes lie in its place
abbrev pub AllInPlace : State → List Digest → Type 0
AllInPlace s ns = (n : Digest) → is_in n ns ≡ true → (b : List ℕ) × (s.place n ≡ Some b) × (digest_of b ≡ n)

-- nothing but what is in the lists of machines is changed
pub record OnlyLists (s t : State) : Type 0 where
  pub place : t.place ≡ s.place
  pub aside : t.aside ≡ s.aside
  pub own : t.own ≡ s.own
  pub days : t.days ≡ s.days
  pub highest : t.highest ≡ s.highest
  pub machines : t.machines ≡ s.machines
  pub sweep : t.sweep ≡ s.sweep

module _ {S : Type 0} (does : Doing S) where
  -- any step of machine i that is no adding of a file
  abbrev pub Steps : ℕ → Option Work → S → Result Done Refusal → Option Work → S → Type 0
  Steps i old s a new t =
      Begins does i old s a new t
      ⊎ (((p : List ℕ) × Sees does i p old s a new t) ⊎ (Raises does i old s a new t ⊎ (Names does i old s a new t ⊎ Breaks does i old s a new t)))

  pub record Promise (holds : S → State) : Type 0 where
    -- a piece counts as seen to, as the last file of the day, only if its very bytes lie in its place then
    pub seen : (i : ℕ) (p : List ℕ) (old new : Option Work) (s t : S) (d : Done) → Sees does i p old s (Ok d) new t →
        ((holds t).place (digest_of p) ≡ Some p) × (w : Work) × (old ≡ Some w) × (new ≡ Some (with_file (entry (place_path (length w.files + 1)) (p ∷ [])) w))
    -- a file that is added is the last one of the day, with all its bytes and the names of its pieces, and right bytes lie in the place of each
    pub added : (i : ℕ) (path file : List ℕ) (old new : Option Work) (s t : S) (a : Added) → Adds does i path file old s (Ok (done.Added a)) new t →
        (w : Work) × (old ≡ Some w) × (new ≡ Some (with_file (file_entry path file) w)) × AllInPlace (holds t) (map digest_of (pieces file)) × (a.pieces ≡ length (pieces file))
    -- the number of a day is one above the machine's highest, and is its highest then
    pub raised : (i k : ℕ) (old new : Option Work) (s t : S) → Raises does i old s (Ok (Raised k)) new t → (k ≡ (holds s).highest i + 1) × ((holds t).highest i ≡ k)
    -- a day that has its name has the number that was raised for it, and just the files that were added
    pub named : (i k : ℕ) (old new : Option Work) (s t : S) → Names does i old s (Ok (Named k)) new t →
        (w : Work) × (old ≡ Some w) × (w.number ≡ Some k) × ((holds t).days (record { machine = i; number = k }) ≡ Some (day_file (record { machine = i; number = k }) w.files))
    -- a step that is refused by a number changes nothing
    pub refused : (i k : ℕ) (old new : Option Work) (s t : S) (r : Refusal) → number_of r ≡ Some k → Steps i old s (Err r) new t → (holds t ≡ holds s) × (new ≡ old)
    -- a file that is refused by a number is not in the day, and no piece of it is written; and nothing changes but where the lists are full, and then nothing but what is in the lists of machines
    pub add_refused : (i k : ℕ) (path file : List ℕ) (old new : Option Work) (s t : S) (r : Refusal) → number_of r ≡ Some k → Adds does i path file old s (Err r) new t →
        (new ≡ old) × OnlyLists (holds s) (holds t) × ((r ≡ TooManyNames → ⊥) → holds t ≡ holds s)

  -- this is so on every exact store
  abbrev pub Promised : Type 0
  Promised = (holds : S → State) → IsExact holds does → Promise holds
