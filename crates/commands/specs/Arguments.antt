-- The words that a program is called with.
-- Assumes nothing.
use Rattle.std.specs.Prelude.{◌≡◌, ◌⊎◌, ℕ, ◌==◌, ◌&&◌, Bool, true, false, cond, List, [], ◌∷◌, ◌++◌, length, drop, map, codes, is_some, nat_eq, nat_lt, slice_index, option_copied, vec_items, Some, None, Ok, Err, Option, Result}
use Rattle.std.specs.Cmp.Lexicographic.{pointwise}
use Rattle.std.specs.List.{starts_with}
use Rattle.commands.specs.declared.arguments.Fault.{Fault}
use Rattle.commands.specs.declared.arguments.Fault.TheVariants as fault
use Rattle.commands.specs.declared.arguments.Kind.{Kind}
use Rattle.commands.specs.declared.arguments.Kind.TheVariants as kind
use Rattle.commands.specs.declared.arguments.Given.{Given}
use Rattle.commands.specs.declared.arguments.Wrong.{Wrong}

-- two words are the same
abbrev pub same : List ℕ → List ℕ → Bool
same v w = pointwise nat_eq v w

-- what a word before `--` is
abbrev pub kind_by : List ℕ → Kind
kind_by w =
    cond (same w (codes "--help")) kind.Help
    (cond (same w (codes "--progress")) kind.Progress
    (cond (same w (codes "--store")) kind.Store
    (cond (starts_with nat_eq w (codes "--store=")) kind.StoreIs
    (cond (nat_lt 1 (length w) && (slice_index w 0 == 45)) kind.NoOption
    kind.Argument))))

-- what was said so far, and whether the next word is the folder
pub record Said : Type 0 where
  pub folder : Option (List ℕ)
  pub progress : Bool
  pub arguments : List (List ℕ)
  pub awaits : Bool

abbrev pub said : Given → Said
said g = record { folder = option_copied g.folder; progress = g.progress; arguments = map (λ w. w.now) (vec_items g.arguments); awaits = g.awaits }

-- the store is named, unless it was before, or this is no name
abbrev pub naming : List ℕ → Said → Result Said Fault
naming f s = cond (length f == 0) (Err fault.NoFolder) (cond (is_some s.folder) (Err fault.StoreTwice) (Ok (record { folder = Some f; progress = s.progress; arguments = s.arguments; awaits = false })))

-- what is said with a word of this kind
abbrev pub saying : Bool → List ℕ → Said → Kind → Result Said Fault
saying tells w s kind.Progress = cond tells (Ok (record { folder = s.folder; progress = true; arguments = s.arguments; awaits = false })) (Err fault.NoOption)
saying tells w s kind.Store = Ok (record { folder = s.folder; progress = s.progress; arguments = s.arguments; awaits = true })
saying tells w s kind.StoreIs = naming (drop 8 w) s
saying tells w s kind.Argument = Ok (record { folder = s.folder; progress = s.progress; arguments = s.arguments ++ w ∷ []; awaits = false })
saying tells w s kind.Help = Err fault.NoOption
saying tells w s kind.NoOption = Err fault.NoOption

-- what is said with one word more
abbrev pub after : Bool → List ℕ → Said → Result Said Fault
after tells w s = cond s.awaits (naming w s) (saying tells w s (kind_by w))

-- what is answered to one word: what is said then, or what is wrong, or there is no memory
abbrev pub Takes : Bool → List ℕ → Said → Result Unit Fault → Said → Type 0
Takes tells w s (Ok u) t = after tells w s ≡ Ok t
Takes tells w s (Err e) t = (e ≡ fault.NoMemory) ⊎ (after tells w s ≡ Err e)

-- what follows a word that is right; or the word, and what is wrong with it
abbrev pub follow : List ℕ → (Said → Result Said (List ℕ × Fault)) → Result Said Fault → Result Said (List ℕ × Fault)
follow w rest (Ok s) = rest s
follow w rest (Err f) = Err (w, f)

-- what is said with all these words, or the first that is wrong; the last one may not be a `--store` without its folder
unfoldable pub after_all : Bool → List (List ℕ) → Said → Result Said (List ℕ × Fault)
after_all tells [] s = cond s.awaits (Err (codes "--store", fault.NoFolder)) (Ok s)
after_all tells (w ∷ ws) s = follow w (λ t. after_all tells ws t) (after tells w s)

-- what is answered to all these words
abbrev pub TakesAll : Bool → List (List ℕ) → Said → Result Unit Wrong → Said → Type 0
TakesAll tells ws s (Ok u) t = after_all tells ws s ≡ Ok t
TakesAll tells ws s (Err e) t = (e.fault ≡ fault.NoMemory) ⊎ (after_all tells ws s ≡ Err (e.word.now, e.fault))

-- a word that ends the options
abbrev pub dashes : List ℕ → Bool
dashes w = same w (codes "--")

-- nothing
abbrev pub unsaid : Said
unsaid = record { folder = None; progress = false; arguments = []; awaits = false }

-- what was said, and these words, which are arguments whatever they are
abbrev pub with_behind : List (List ℕ) → Result Said (List ℕ × Fault) → Result Said (List ℕ × Fault)
with_behind ws (Ok s) = Ok (record { folder = s.folder; progress = s.progress; arguments = s.arguments ++ ws; awaits = s.awaits })
with_behind ws (Err e) = Err e

-- what is answered to words before `--` and words behind it
abbrev pub Reads : Bool → List (List ℕ) → List (List ℕ) → Result Given Wrong → Type 0
Reads tells front behind (Ok g) = with_behind behind (after_all tells front unsaid) ≡ Ok (said g)
Reads tells front behind (Err e) = (e.fault ≡ fault.NoMemory) ⊎ (after_all tells front unsaid ≡ Err (e.word.now, e.fault))
