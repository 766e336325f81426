-- Having a file back: what is asked of a store, in which order, and what is answered. Each leads the store from s to t.
-- Assumes nothing.
use Rattle.std.specs.Prelude.{◌≡◌, ◌≢◌, ◌⊎◌, ℕ, ◌+◌, ◌<◌, ◌≤◌, List, [], ◌∷◌, ◌++◌, length, Contains, Some, None, Ok, Err, Option, Result, Vec, vec_items}
use Rattle.std.specs.declared.alloc.Global.{Global}
use Rattle.cutting.specs.declared.refusal.Refusal.{Refusal}
use Rattle.cutting.specs.declared.refusal.Refusal.TheVariants.{BadDay, NoMemory, Unknown}
use Rattle.digest.specs.declared.value.Digest.{Digest}
use Rattle.digest.specs.Digests.{digest_of}
use Rattle.store.specs.declared.day.DayName.{DayName}
use Rattle.store.specs.declared.piece.Spot.{Spot}
use Rattle.store.specs.declared.piece.Spot.TheVariants.{Place, Aside}
use Rattle.store.specs.Asking.{Doing}
use Rattle.store.specs.Loops.{Each, Go}
use Rattle.store.specs.Requests.{Read, ReadDay, Bytes, Refused}
use Rattle.dayfile.specs.Entries.{Entry}
use Rattle.dayfile.specs.Reads.{NotRead}
use Rattle.dayfile.specs.Stored.{IsDayOf}

-- The bytes of a piece come after those that are there; or they would be more than a file is to have.
abbrev pub Extends : ℕ → List ℕ → List ℕ → Result (Unit {0}) Refusal → List ℕ → Type 0
Extends most old piece (Ok x) new = (length old + length piece ≤ most) × (new ≡ old ++ piece)
Extends most old piece (Err r) new = (most < length old + length piece) × (r ≡ BadDay)

-- no file of these has this path
abbrev pub HasNoPath : List Entry → List ℕ → Type 0
HasNoPath es path = (e : Entry) → Contains es e → e.path ≢ path

-- where a piece is looked for, one after the other: in its place, aside, and in its place again, since it may have been put back between the first two looks
abbrev pub looks : List Spot
looks = Place ∷ Aside ∷ Place ∷ []

module _ {S : Type 0} (does : Doing S) where
  -- what lies in a spot under a name is read: bytes of that name; or nothing lies there, or other bytes
  abbrev pub ReadsRight : Spot → Digest → S → Result (Option (Vec ℕ Global)) Refusal → S → Type 0
  ReadsRight spot n s (Ok (Some v)) t = does s (Read spot n) (Bytes (Some (vec_items v))) t × (digest_of (vec_items v) ≡ n)
  ReadsRight spot n s (Ok None) t = (x : Option (List ℕ)) × does s (Read spot n) (Bytes x) t × ((b : List ℕ) → x ≡ Some b → digest_of b ≢ n)
  ReadsRight spot n s (Err r) t = does s (Read spot n) (Refused r) t

  -- a piece is read from the first of these spots that has its bytes; or one cannot be read, or none has them
  abbrev pub ReadsFrom : List Spot → Digest → S → Result (Vec ℕ Global) Refusal → S → Type 0
  ReadsFrom [] n s (Ok v) t = ⊥
  ReadsFrom [] n s (Err r) t = (t ≡ s) × (r ≡ BadDay)
  ReadsFrom (spot ∷ spots) n s (Ok v) t = ReadsRight spot n s (Ok (Some v)) t ⊎ ((m : S) × ReadsRight spot n s (Ok None) m × ReadsFrom spots n m (Ok v) t)
  ReadsFrom (spot ∷ spots) n s (Err r) t = ReadsRight spot n s (Err r) t ⊎ ((m : S) × ReadsRight spot n s (Ok None) m × ReadsFrom spots n m (Err r) t)

  -- it is read so from these
  abbrev pub ReadsPiece : Digest → S → Result (Vec ℕ Global) Refusal → S → Type 0
  ReadsPiece = ReadsFrom looks

  -- and its bytes come after those that are there; or it is not read, or they are too many
  abbrev pub JoinsPiece : ℕ → Digest → Go S (List ℕ)
  JoinsPiece most n s u (Ok x) t v = (p : Vec ℕ Global) × ReadsPiece n s (Ok p) t × Extends most u (vec_items p) (Ok tt) v
  JoinsPiece most n s u (Err r) t v = ReadsPiece n s (Err r) t ⊎ ((p : Vec ℕ Global) × ReadsPiece n s (Ok p) t × Extends most u (vec_items p) (Err r) v)

  -- so do those of each piece, in order
  abbrev pub JoinsAll : ℕ → List Digest → Go S (List ℕ)
  JoinsAll most ns = Each (record { bytes = [] }) (JoinsPiece most) ns

  -- a file is joined of its pieces, and has as many bytes as is listed
  abbrev pub Joins : Entry → S → Result (Vec ℕ Global) Refusal → S → Type 0
  Joins e s (Ok v) t = JoinsAll e.length e.pieces s [] (Ok tt) t (vec_items v) × (length (vec_items v) ≡ e.length)
  Joins e s (Err r) t =
      ((r ≡ NoMemory) × (t ≡ s))
      ⊎ ((v : List ℕ) × (JoinsAll e.length e.pieces s [] (Err r) t v ⊎ (JoinsAll e.length e.pieces s [] (Ok tt) t v × (length v ≢ e.length) × (r ≡ BadDay))))

  -- The file of this path in a day is had back. Or why not: the day's file cannot be read; there is none; it is not of its form; it has no such path; or the file cannot be joined.
  abbrev pub Backs : DayName → List ℕ → S → Result (Vec ℕ Global) Refusal → S → Type 0
  Backs d path s (Ok v) t =
      (b : List ℕ) × (es : List Entry) × (e : Entry) × (m : S) × does s (ReadDay d) (Bytes (Some b)) m × IsDayOf d es b × Contains es e × (e.path ≡ path) × Joins e m (Ok v) t
  Backs d path s (Err r) t =
      does s (ReadDay d) (Refused r) t
      ⊎ ((does s (ReadDay d) (Bytes None) t × (r ≡ Unknown))
      ⊎ (((b : List ℕ) × does s (ReadDay d) (Bytes (Some b)) t × NotRead d b r)
      ⊎ (((b : List ℕ) × (es : List Entry) × does s (ReadDay d) (Bytes (Some b)) t × IsDayOf d es b × HasNoPath es path × (r ≡ Unknown))
      ⊎ ((b : List ℕ) × (es : List Entry) × (e : Entry) × (m : S) × does s (ReadDay d) (Bytes (Some b)) m × IsDayOf d es b × Contains es e × (e.path ≡ path) × Joins e m (Err r) t))))
