-- What a search from the first file on finds.
-- Assumes nothing.
use Rattle.std.proofs.Common.{◌≡◌, ◌≢◌, ℕ, ◌<◌, List, [], ◌∷◌, length, map, Option, Some, None, Bor, Contains, IfSome, IsSomeAnd, sym, ap, ◌∙◌, arith}
use Rattle.std.proofs.lemmas.List.{get_or-map, length-map}
use Rattle.std.specs.List.{AllWithin, HoldsAt}
use Rattle.std.specs.Option.{MatchOption}
use Rattle.dayfile.specs.declared.entry.FileEntry.{FileEntry}
use Rattle.dayfile.specs.Entries.{Entry}
use Rattle.dayfile.specs.Files.{entry_of}
use Rattle.dayfile.specs.Limits.{AreFiles}
use Rattle.dayfile.proofs.Rising.{same_file}

-- no file has this path, or the first that has it is found
abbrev pub IsFirst : List FileEntry → List ℕ → Option (Bor FileEntry) → Type 0
IsFirst fs path o =
    MatchOption o (AllWithin (λ f. f.path.bytes.items ≢ path) fs 0 (length fs))
    (λ x. (x.now.path.bytes.items ≡ path) × (i : ℕ) × (i < length fs) × HoldsAt (λ y. y ≡ x.now) fs i × AllWithin (λ f. f.path.bytes.items ≢ path) fs 0 i)

pub is_there : (fs : List FileEntry) (path : List ℕ) (o : Option (Bor FileEntry)) → IsFirst fs path o → IfSome o (λ f. Contains (map entry_of fs) (entry_of f.now) × ((entry_of f.now).path ≡ path))
is_there fs path None h = tt
is_there fs path (Some x) (same, i, lt, at, others) = ((i, omega (arith, length-map fs entry_of), get_or-map entry_of fs i x.now (entry_of x.now) lt ∙ ap entry_of (at x.now)), same)

none_has : (fs : List FileEntry) (path : List ℕ) → AllWithin (λ f. f.path.bytes.items ≢ path) fs 0 (length fs) → (e : Entry) → Contains (map entry_of fs) e → e.path ≡ path → ⊥
none_has [] path none e (i, lt, at) same = absurd (omega arith)
none_has (f ∷ fs) path none e (i, lt, at) same =
    let within : i < length (f ∷ fs) = omega (arith, length-map (f ∷ fs) entry_of) in
    none i f (omega arith) within (ap (λ (x : Entry). x.path) (sym (get_or-map entry_of (f ∷ fs) i f e within) ∙ at) ∙ same)

pub is_only : (fs : List FileEntry) (path : List ℕ) (o : Option (Bor FileEntry)) → AreFiles (map entry_of fs) → IsFirst fs path o → (e : Entry) → Contains (map entry_of fs) e → e.path ≡ path → IsSomeAnd o (λ f. entry_of f.now ≡ e)
is_only fs path None h first e there same = none_has fs path first e there same
is_only fs path (Some x) h first e there same =
    let found = is_there fs path (Some x) first in
    same_file (map entry_of fs) (entry_of x.now) e h found.0 there (found.1 ∙ sym same)
