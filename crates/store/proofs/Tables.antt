-- Tables of what is in a map, without the keys at which there is nothing to tell.
-- Assumes nothing.
use Rattle.std.proofs.Common.{◌≡◌, ℕ, vec_items, Vec, length, Bool, true, false, cond, List, [], ◌∷◌, Some, None, Option, Ordering, Less, refl, sym, ap, subst, ◌∙◌}
use Rattle.std.proofs.lemmas.Cmp.{eq_by_cmp_equiv, nat_cmp_total, nat_list_cmp_total, on_total, then_total}
use Rattle.std.proofs.lemmas.Map.{lookup-none}
use Rattle.std.proofs.lemmas.Map.Entries.{none_past_head}
use Rattle.std.proofs.lemmas.Map.Keys.{IsDistinct-from_sorted, sorted_tail}
use Rattle.std.specs.BTreeMap as tree
use Rattle.std.specs.Cmp.{IsTotalOrder}
use Rattle.std.specs.declared.alloc.Global.{Global}
use Rattle.std.specs.List.{AllByRecursion, cons_option, filter_map}
use Rattle.std.specs.List.Sorted.{IsStrictlySortedBy}
use Rattle.std.specs.Map.{keys_of, lookup}
use Rattle.std.specs.Option.{option_and_then, option_map}
use Rattle.std.specs.Ordering.{eq_by_cmp}
use Rattle.digest.specs.declared.value.Digest.{Digest}
use Rattle.store.specs.Contents.{Lists}
use Rattle.store.specs.declared.day.DayName.{DayName}
use Rattle.store.specs.declared.memory.Copies.{Copies}
use Rattle.store.specs.declared.memory.Memory.{Memory}
use Rattle.store.specs.Effects.{lies}
use Rattle.store.specs.Memories.{day_cmp, name_cmp, state_of}
use Rattle.store.specs.declared.piece.Spot.{Spot}
use Rattle.store.specs.declared.piece.Spot.TheVariants.{Aside, Place}

-- of each entry what g tells of its value, beside its key
abbrev pub table_of : {K X V : Type 0} → (X → Option V) → List (K × X) → List (K × V)
table_of g es = filter_map (λ e. option_map (λ v. (e.0, v)) (g e.1)) es

module _ {K X V : Type 0} (g : X → Option V) where
  All-table_of : (P : K → Type 0) (es : List (K × X)) → AllByRecursion P (keys_of es) → AllByRecursion P (keys_of (table_of g es))
  All-table_of P [] h = tt
  All-table_of P (e ∷ es) h =
      elim (g e.1) as (λ o. AllByRecursion P (keys_of (cons_option (option_map (λ v. (e.0, v)) o) (table_of g es)))) [
        | None ↦ All-table_of P es h.1
        | Some v ↦ (h.0, All-table_of P es h.1)
      ]

  sorted-table_of : (cmp : K → K → Ordering) (es : List (K × X)) → IsStrictlySortedBy cmp (keys_of es) → IsStrictlySortedBy cmp (keys_of (table_of g es))
  unfolding IsStrictlySortedBy
  sorted-table_of cmp [] h = tt
  sorted-table_of cmp (e ∷ es) h =
      elim (g e.1) as (λ o. IsStrictlySortedBy cmp (keys_of (cons_option (option_map (λ v. (e.0, v)) o) (table_of g es)))) [
        | None ↦ sorted-table_of cmp es h.1
        | Some v ↦ (All-table_of (λ k. cmp e.0 k ≡ Less) es h.0, sorted-table_of cmp es h.1)
      ]

  -- the first key is the one that is looked for, and no later key is, or a later one may be
  lookup-first : (test : K → Bool) (b : Bool) (k : K) (x : X) (o : Option V) (found : Option X) (more : List (K × V))
      → test k ≡ b → g x ≡ o → lookup test more ≡ option_and_then g found → (b ≡ true → found ≡ None)
      → lookup test (cons_option (option_map (λ v. (k, v)) o) more) ≡ option_and_then g (cond b (Some x) found)
  lookup-first test true k x (Some v) found more same is tail none = rw same (sym is)
  lookup-first test true k x None found more same is tail none = tail ∙ ap (option_and_then g) (none refl) ∙ sym is
  lookup-first test false k x (Some v) found more same is tail none = rw same tail
  lookup-first test false k x None found more same is tail none = tail

  lookup-table_of : {cmp : K → K → Ordering} → IsTotalOrder cmp → (k : K) (es : List (K × X)) → IsStrictlySortedBy cmp (keys_of es)
      → lookup (eq_by_cmp cmp k) (table_of g es) ≡ option_and_then g (lookup (eq_by_cmp cmp k) es)
  lookup-table_of total k [] h = refl
  lookup-table_of {cmp} total k (e ∷ es) h =
      let test = eq_by_cmp cmp k in
      lookup-first test (test e.0) e.0 e.1 (g e.1) (lookup test es) (table_of g es) refl refl (lookup-table_of total k es (sorted_tail cmp e.0 (keys_of es) h))
      (λ same. lookup-none test es (none_past_head (eq_by_cmp_equiv total) k e es (IsDistinct-from_sorted cmp (keys_of (e ∷ es)) h) same))

  -- a map's entries, in order, make a table of all that there is
  pub Lists-table_of : {cmp : K → K → Ordering} → IsTotalOrder cmp → (es : List (K × X)) → IsStrictlySortedBy cmp (keys_of es)
      → (there : K → Option V) → ((k : K) → option_and_then g (lookup (eq_by_cmp cmp k) es) ≡ there k) → (table : List (K × V)) → table ≡ table_of g es → Lists cmp there table
  Lists-table_of total es h there is table e =
      subst (Lists _ there) (sym e) (record { in_order = sorted-table_of _ es h; all = λ k. lookup-table_of total k es h ∙ is k })

-- what lies in one spot of a name's copies
abbrev pub in_spot : Spot → Copies → Option (List ℕ)
in_spot Place c = option_map vec_items c.place
in_spot Aside c = option_map vec_items c.aside

-- how many bytes lie there
abbrev pub length_in : Spot → Copies → Option ℕ
length_in spot c = option_map length (in_spot spot c)

-- the bytes of a day
abbrev pub file_of : Vec ℕ Global → Option (List ℕ)
file_of b = Some (vec_items b)

pub name_total : IsTotalOrder name_cmp
name_total = on_total (λ (n : Digest). n.bytes) nat_list_cmp_total

pub day_total : IsTotalOrder day_cmp
day_total = then_total (on_total (λ (d : DayName). d.machine) nat_cmp_total) (on_total (λ (d : DayName). d.number) nat_cmp_total)

map_then : {A B C : Type 0} (f : B → C) (h : A → Option B) (o : Option A) → option_and_then (λ x. option_map f (h x)) o ≡ option_map f (option_and_then h o)
map_then f h None = refl
map_then f h (Some x) = refl

-- what the store has in one spot
pub lies_there : (spot : Spot) (m : Memory) (n : Digest) → option_and_then (length_in spot) (tree.get name_cmp m.pieces n) ≡ option_map length (lies spot (state_of m) n)
lies_there Place m n = map_then length (in_spot Place) (tree.get name_cmp m.pieces n)
lies_there Aside m n = map_then length (in_spot Aside) (tree.get name_cmp m.pieces n)

pub day_there : (m : Memory) (d : DayName) → option_and_then file_of (tree.get day_cmp m.days d) ≡ (state_of m).days d
day_there m d = elim (tree.get day_cmp m.days d) as (λ o. option_and_then file_of o ≡ option_map vec_items o) [ None ↦ refl | Some ps ↦ refl ]
