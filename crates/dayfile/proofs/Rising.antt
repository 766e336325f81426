-- Files whose paths rise: fewer of them, and one more.
-- Assumes nothing.
use Rattle.std.proofs.Common.{◌≡◌, ◌≢◌, ℕ, ◌-◌, ◌<◌, List, [], ◌∷◌, ◌++◌, length, get_or, map, slice_get, Option, Some, None, Ordering, Less, Contains, Greater, IfSome, IsSomeAnd, lit≤, inl, inr, refl, sym, ap, subst, ◌∙◌, arith}
use Rattle.std.proofs.lemmas.Bool.{cases_lt}
use Rattle.std.proofs.lemmas.Cmp.{nat_list_cmp_total}
use Rattle.std.proofs.lemmas.List.{get_or-map, get_or_default, length-append, map-append, length-map}
use Rattle.std.proofs.lemmas.List.Elements.{All-from_recursion, recursion_from_All}
use Rattle.std.proofs.lemmas.Map.Keys.{Less-from_sorted}
use Rattle.std.proofs.lemmas.Option.{get_or_from_slice_get, slice_get-get_or, slice_get_within}
use Rattle.std.specs.List.{All, AllByRecursion}
use Rattle.std.specs.Option.{option_to_list}
use Rattle.std.specs.List.Sorted.{IsStrictlySortedBy}
use Rattle.cutting.specs.declared.refusal.Refusal.{Refusal}
use Rattle.cutting.specs.declared.refusal.Refusal.TheVariants.{FileTooLong, TooManyFiles, PathNotAbove}
use Rattle.dayfile.specs.Adding.{IsAbove, Misfits}
use Rattle.dayfile.specs.Entries.{Entry}
use Rattle.dayfile.specs.Files.{entry_of}
use Rattle.dayfile.specs.declared.entry.FileEntry.{FileEntry}
use Rattle.dayfile.specs.Limits.{most_files, path_cmp, IsEntry, AreFiles}

module _ {X : Type 0} (P : X → Type 0) where
  all_front : (xs ys : List X) → AllByRecursion P (xs ++ ys) → AllByRecursion P xs
  all_front [] ys h = tt
  all_front (x ∷ xs) ys h = (h.0, all_front xs ys h.1)

  all_at : (xs : List X) (y : X) (ys : List X) → AllByRecursion P (xs ++ y ∷ ys) → P y
  all_at [] y ys h = h.0
  all_at (x ∷ xs) y ys h = all_at xs y ys h.1

  all_push : (xs : List X) (y : X) → AllByRecursion P xs → P y → AllByRecursion P (xs ++ y ∷ [])
  all_push [] y h p = (p, tt)
  all_push (x ∷ xs) y h p = (h.0, all_push xs y h.1 p)

module _ {K : Type 0} (c : K → K → Ordering) where
  sorted_front : (xs ys : List K) → IsStrictlySortedBy c (xs ++ ys) → IsStrictlySortedBy c xs
  unfolding IsStrictlySortedBy
  sorted_front [] ys h = tt
  sorted_front (x ∷ xs) ys h = (all_front (λ y. c x y ≡ Less) xs ys h.0, sorted_front xs ys h.1)

  sorted_at : (xs : List K) (y : K) (ys : List K) → IsStrictlySortedBy c (xs ++ y ∷ ys) → AllByRecursion (λ x. c x y ≡ Less) xs
  unfolding IsStrictlySortedBy
  sorted_at [] y ys h = tt
  sorted_at (x ∷ xs) y ys h = (all_at (λ z. c x z ≡ Less) xs y ys h.0, sorted_at xs y ys h.1)

  sorted_push : (xs : List K) (y : K) → IsStrictlySortedBy c xs → AllByRecursion (λ x. c x y ≡ Less) xs → IsStrictlySortedBy c (xs ++ y ∷ [])
  unfolding IsStrictlySortedBy
  sorted_push [] y h b = (tt, tt)
  sorted_push (x ∷ xs) y h b = (all_push (λ z. c x z ≡ Less) xs y h.0 b.0, sorted_push xs y h.1 b.1)

-- the path of a file
abbrev path_of : Entry → List ℕ
path_of e = e.path

-- each of these files is below this one
abbrev pub AreBelow : List Entry → Entry → Type 0
AreBelow es e = AllByRecursion (λ p. path_cmp p e.path ≡ Less) (map (λ x. x.path) es)

pub no_files : AreFiles []
unfolding IsStrictlySortedBy
no_files = record { count = lit≤ tt; each = tt; rising = tt }

-- the first of these files
pub AreFiles-front : (es fs : List Entry) → AreFiles (es ++ fs) → AreFiles es
AreFiles-front es fs h =
    record {
      count = omega (arith, h.count, length-append es fs);
      each = all_front IsEntry es fs h.each;
      rising = sorted_front path_cmp (map path_of es) (map path_of fs) (subst (IsStrictlySortedBy path_cmp) (map-append path_of es fs) h.rising);
    }

-- a file among these is below those after it
pub AreFiles-at : (es : List Entry) (e : Entry) (fs : List Entry) → AreFiles (es ++ e ∷ fs) → IsEntry e × (length es < most_files) × AreBelow es e
AreFiles-at es e fs h = (
  all_at IsEntry es e fs h.each,
  omega (arith, h.count, length-append es (e ∷ fs)),
  sorted_at path_cmp (map path_of es) e.path (map path_of fs) (subst (IsStrictlySortedBy path_cmp) (map-append path_of es (e ∷ fs)) h.rising),
)

-- each of the files as they lie in memory
pub is_entry : (fs : List FileEntry) (i : ℕ) (d : FileEntry) → AreFiles (map entry_of fs) → i < length fs → IsEntry (entry_of (get_or fs i d))
is_entry fs i d h lt = subst IsEntry (get_or-map entry_of fs i d (entry_of d) lt) (All-from_recursion IsEntry (map entry_of fs) h.each i (entry_of d) (omega (arith, length-map fs entry_of)))

-- one file more
pub AreFiles-push : (es : List Entry) (e : Entry) → AreFiles es → IsEntry e → length es < most_files → AreBelow es e → AreFiles (es ++ e ∷ [])
AreFiles-push es e h is few below =
    record {
      count = omega (arith, length-append es (e ∷ []));
      each = all_push IsEntry es e h.each is;
      rising = subst (IsStrictlySortedBy path_cmp) (sym (map-append path_of es (e ∷ []))) (sorted_push path_cmp (map path_of es) e.path h.rising below);
    }

path_at : (es : List Entry) (i : ℕ) (d : List ℕ) (x : Entry) → i < length es → get_or es i x ≡ x → get_or (map path_of es) i d ≡ x.path
path_at es i d x lt is = get_or-map path_of es i x d lt ∙ ap path_of is

-- where the last is below another, all are
pub below_last : (es : List Entry) (e last : Entry) → AreFiles es → slice_get es (length es - 1) ≡ Some last → path_cmp last.path e.path ≡ Less → AreBelow es e
below_last es e last h is less = recursion_from_All _ (map path_of es) each
  where
    within : length es - 1 < length es
    within = slice_get_within es (length es - 1) last is

    here : (d : List ℕ) → get_or (map path_of es) (length es - 1) d ≡ last.path
    here d = path_at es (length es - 1) d last within (get_or_from_slice_get es (length es - 1) last last is)

    each : All (λ p. path_cmp p e.path ≡ Less) (map path_of es)
    each i d lt =
        elim (cases_lt i (length es - 1)) [
          | inl low ↦
              nat_list_cmp_total.trans _ last.path e.path (subst (λ p. path_cmp (get_or (map path_of es) i d) p ≡ Less) (here d) (Less-from_sorted path_cmp (map path_of es) i (length es - 1) d h.rising low (omega (arith, length-map es path_of)))) less
          | inr high ↦
              let at : i ≡ length es - 1 = omega (arith, length-map es path_of) in
              rw (at, here d) less
        ]

-- the same of a last one that there may be
pub below_each : (es : List Entry) (e : Entry) → AreFiles es → IsAbove es e → AreBelow es e
below_each es e h above = go es (slice_get es (length es - 1)) refl h above
  where
    go : (es : List Entry) (o : Option Entry) → slice_get es (length es - 1) ≡ o → AreFiles es → IfSome o (λ last. path_cmp last.path e.path ≡ Less) → AreBelow es e
    go [] o is h less = tt
    go (x ∷ es) None is h less =
        let there = slice_get-get_or (x ∷ es) (length (x ∷ es) - 1) x (omega arith) in
        absurd cc
    go (x ∷ es) (Some last) is h less = below_last (x ∷ es) e last h is less

-- a file may follow
pub may_follow : (fs : List FileEntry) (e : Entry) → AreFiles (map entry_of fs) → IsEntry e → length fs < most_files → IsAbove (map entry_of fs) e → AreFiles (map entry_of fs ++ e ∷ [])
may_follow fs e h is few above = AreFiles-push (map entry_of fs) e h is (omega (arith, length-map fs entry_of)) (below_each (map entry_of fs) e h above)

-- what is left without the last
pub without_one : (fs gs : List FileEntry) (o : Option FileEntry) → fs ≡ gs ++ option_to_list o → AreFiles (map entry_of fs) → AreFiles (map entry_of gs)
without_one fs gs o e h = AreFiles-front (map entry_of gs) (map entry_of (option_to_list o)) (subst AreFiles (ap (map entry_of) e ∙ map-append entry_of gs (option_to_list o)) h)

-- two files of one path are one
pub same_file : (es : List Entry) (x y : Entry) → AreFiles es → Contains es x → Contains es y → x.path ≡ y.path → x ≡ y
same_file es x y h (i, in_i, at_i) (j, in_j, at_j) same =
    elim (cases_lt i j) [
      | inl low ↦ absurd (apart x y i j low in_j (path_at es i [] x in_i at_i) (path_at es j [] y in_j at_j) same)
      | inr le ↦
          elim (cases_lt j i) [
            | inl low ↦ absurd (apart y x j i low in_i (path_at es j [] y in_j at_j) (path_at es i [] x in_i at_i) (sym same))
            | inr ge ↦
                let one : i ≡ j = omega arith in
                sym at_i ∙ rw one (get_or_default es j x y in_j ∙ at_j)
          ]
    ]
  where
    apart : (u v : Entry) (k l : ℕ) → k < l → l < length es → get_or (map path_of es) k [] ≡ u.path → get_or (map path_of es) l [] ≡ v.path → u.path ≡ v.path → ⊥
    apart u v k l lt within at_k at_l equal =
        let less : path_cmp (get_or (map path_of es) k []) (get_or (map path_of es) l []) ≡ Less = Less-from_sorted path_cmp (map path_of es) k l [] h.rising lt (omega (arith, length-map es path_of)) in
        let itself : path_cmp v.path v.path ≡ Less = rw (at_k, at_l, equal) at less in
        let turned : Less ≡ Greater = rw itself at (nat_list_cmp_total.antisymm v.path v.path) in
        absurd cc

-- a file that misfits cannot follow these, whatever comes after it
pub misfits : (es : List Entry) (e : Entry) (fs : List Entry) (r : Refusal) → Misfits es e r → AreFiles (es ++ e ∷ fs) → ⊥
misfits es e fs FileTooLong (inl long) h = absurd (omega (arith, (AreFiles-at es e fs h).0.bytes))
misfits es e fs FileTooLong (inr (inl many)) h = absurd (omega (arith, (AreFiles-at es e fs h).0.count))
misfits es e fs FileTooLong (inr (inr none)) h = none.1 ((AreFiles-at es e fs h).0.none none.0)
misfits es e fs TooManyFiles m h = absurd (omega (arith, (AreFiles-at es e fs h).1))
misfits es e fs PathNotAbove m h = not_below (slice_get es (length es - 1)) refl m.2
  where
    not_below : (o : Option Entry) → slice_get es (length es - 1) ≡ o → IsSomeAnd o (λ last. path_cmp last.path e.path ≢ Less) → ⊥
    not_below None is n = n
    not_below (Some last) is n =
        let within : length es - 1 < length es = slice_get_within es (length es - 1) last is in
        let below : path_cmp (get_or (map path_of es) (length es - 1) []) e.path ≡ Less = All-from_recursion _ (map path_of es) (AreFiles-at es e fs h).2 (length es - 1) [] (omega (arith, length-map es path_of)) in
        n (rw (path_at es (length es - 1) [] last within (get_or_from_slice_get es (length es - 1) last last is)) at below)
misfits es e fs other m h = m
