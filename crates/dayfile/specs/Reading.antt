-- Reading from left to right: what is read, and the bytes after it, or nothing.
-- Assumes nothing.
use Rattle.std.specs.Prelude.{◌≡◌, ⊤, ℕ, zero, suc, List, [], ◌∷◌, length, take, drop, Option, Some, None, Ok, Err, Result, nat_lt, ◌==◌, if◌then◌else◌}
use Rattle.std.specs.Int.{Width, w16, w32, byte_len, from_be_bytes}
use Rattle.cutting.specs.declared.refusal.Refusal.{Refusal}
use Rattle.cutting.specs.declared.refusal.Refusal.TheVariants.{BadDay, NoMemory}
use Rattle.digest.specs.declared.value.Digest.{Digest}
use Rattle.dayfile.specs.Entries.{Entry}

infixl 10 ◌>>=◌
abbrev pub ◌>>=◌ : {A B : Type 0} → Option A → (A → Option B) → Option B
None >>= f = None
(Some x) >>= f = f x

-- so many bytes
abbrev pub bytes_at : ℕ → List ℕ → Option (List ℕ × List ℕ)
bytes_at n bytes = if nat_lt (length bytes) n then None else Some (take n bytes, drop n bytes)

-- a number
abbrev pub number_at : Width → List ℕ → Option (ℕ × List ℕ)
number_at w bytes = if nat_lt (length bytes) (byte_len w) then None else Some (from_be_bytes w (take (byte_len w) bytes), drop (byte_len w) bytes)

-- a path behind its length
unfoldable pub path_at : List ℕ → Option (List ℕ × List ℕ)
path_at [] = None
path_at (n ∷ bytes) = do
  path ← bytes_at n bytes
  if length path.0 == 0 then None else Some path

-- the name of a piece
unfoldable pub name_at : List ℕ → Option (Digest × List ℕ)
name_at bytes = do
  name ← bytes_at 32 bytes
  Some (record { bytes = name.0 }, name.1)

-- so many of the same, one after the other
unfoldable pub many_at : {A : Type 0} → (List ℕ → Option (A × List ℕ)) → ℕ → List ℕ → Option (List A × List ℕ)
many_at one zero bytes = Some ([], bytes)
many_at one (suc n) bytes = do
  first ← one bytes
  others ← many_at one n first.1
  Some (first.0 ∷ others.0, others.1)

-- a file
unfoldable pub entry_at : List ℕ → Option (Entry × List ℕ)
entry_at bytes = do
  path ← path_at bytes
  long ← number_at w32 path.1
  count ← number_at w16 long.1
  names ← many_at name_at count.0 count.1
  Some (record { path = path.0; length = long.0; pieces = names.0 }, names.1)

-- a file that may not follow those before it makes the day bad
abbrev pub bad_day : Refusal → Refusal
bad_day NoMemory = NoMemory
bad_day other = BadDay

-- there is no memory, or the day is bad, and then this is so
abbrev pub Fails : Refusal → Type 0 → Type 0
Fails NoMemory P = ⊤
Fails BadDay P = P
Fails other P = ⊥

-- what a function answers, seen by view, is what is read
abbrev pub Gives : {X Y : Type 0} → (X → Y) → Result X Refusal → Option Y → Type 0
Gives view (Ok x) read = read ≡ Some (view x)
Gives view (Err r) read = Fails r (read ≡ None)
