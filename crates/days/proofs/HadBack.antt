-- Files that are had back.
-- Assumes nothing.
use Rattle.std.proofs.Common.{◌≡◌, ℕ, zero, suc, false, Bool, ◌||◌, ◌+◌, ◌<◌, ◌≤◌, ◌⊎◌, inl, inr, true, List, [], ◌∷◌, ◌++◌, length, map, take, drop, Some, None, Ok, Err, Option, Result, Vec, vec_items, Global, Contains, slice_index_or, ap, sym, subst, refl, ◌∙◌, arith}
use Rattle.std.proofs.lemmas.List.{length-append, length-map, take_all, take-append-drop}
use Rattle.std.proofs.lemmas.List.Folds.{concat-append, list_any-append, list_any_at}
use Rattle.std.specs.List.{concat}
use Rattle.cutting.specs.declared.refusal.Refusal.{Refusal}
use Rattle.cutting.specs.declared.refusal.Refusal.TheVariants.{BadDay, NoMemory}
use Rattle.cutting.specs.Rule.{pieces}
use Rattle.digest.specs.declared.value.Digest.{Digest}
use Rattle.digest.specs.Digests.{digest_of}
use Rattle.store.specs.declared.day.DayName.{DayName}
use Rattle.store.specs.declared.piece.Spot.{Spot}
use Rattle.store.specs.declared.piece.Spot.TheVariants.{Place, Aside}
use Rattle.store.specs.Asking.{Doing, IsExact}
use Rattle.store.specs.Effects.{Does, lies}
use Rattle.store.specs.Loops.{Times, at}
use Rattle.store.specs.Requests.{Read, ReadDay, Bytes, Refused}
use Rattle.store.specs.State.{State, is_in, same_name}
use Rattle.store.proofs.Equality.{names_decide}
use Rattle.store.proofs.Exact.{read, read_day, refused}
use Rattle.dayfile.specs.Entries.{Entry, names_of}
use Rattle.dayfile.specs.Form.{day_file}
use Rattle.dayfile.specs.Limits.{AreFiles}
use Rattle.dayfile.specs.Reading.{Fails}
use Rattle.dayfile.specs.Stored.{HasFiles, IsDayOf}
use Rattle.dayfile.proofs.OneForm.{one_form}
use Rattle.dayfile.proofs.Rising.{same_file}
use Rattle.days.specs.Backs.{Backs, HasNoPath, Joins, JoinsAll, JoinsPiece, ReadsFrom, ReadsPiece, ReadsRight, looks}
use Rattle.days.specs.Files.{BacksAreListed, Clash, IsTold, FilesComeBack, GivenBack, LiesRight}
use Rattle.days.specs.Promise.{file_entry}
use Rattle.days.proofs.Cuts.{whole}
use Rattle.days.proofs.Parts.{Differ, Joined, has_name, joins, one_more, prefix_or_differ}
use Rattle.days.proofs.Seen.{each_is_done, each_is_stopped}

-- a piece that is read was told
is_told : {S : Type 0} (does : Doing S) (spots : List Spot) (n : Digest) (s t : S) (p : Vec ℕ Global) → ReadsFrom does spots n s (Ok p) t → IsTold does (vec_items p)
is_told does [] n s t p x = absurd x
is_told does (spot ∷ spots) n s t p (inl (asked, e)) = (s, t, spot, subst (λ x. does s (Read spot x) (Bytes (Some (vec_items p))) t) (sym e) asked)
is_told does (spot ∷ spots) n s t p (inr (m, none, later)) = is_told does spots n m t p later

-- whatever a store answers, the pieces of a file that is had back have the names that are listed
pub backs_are_listed : {S : Type 0} (does : Doing S) → BacksAreListed does
backs_are_listed {S} does d path s t v (b, es, e, m, asked, is, has, same, (all, size)) =
    let j = joins does (λ u. Unit {0}) (IsTold does) (λ n u w p k r. (tt, is_told does looks n u w p r)) e.length e.pieces (length e.pieces) m t (vec_items v) (omega arith) tt (each_is_done (record { bytes = [] }) (JoinsPiece does e.length) e.pieces m t [] (vec_items v) all) in
    record {
      file = b;
      after = m;
      files = es;
      entry = e;
      parts = j.parts;
      told = asked;
      day = is;
      has = has;
      path_is = same;
      joined = j.joined;
      names = j.names ∙ take_all (length e.pieces) e.pieces (omega arith);
      each = j.each;
      length_is = size;
    }

or_first : {a : Bool} (b : Bool) → a ≡ true → (a || b) ≡ true
or_first {a} b h = ap (λ c. c || b) h

or_second : (a : Bool) {b : Bool} → b ≡ true → (a || b) ≡ true
or_second true h = refl
or_second false h = h

-- the pieces of a file of a day are pieces of the day
has_names : (es : List Entry) (e : Entry) (n : Digest) → Contains es e → is_in n e.pieces ≡ true → is_in n (names_of es) ≡ true
has_names [] e n (k, l, at) h = absurd (omega (arith, l))
has_names (x ∷ es) e n (zero, l, at) h = list_any-append (same_name n) x.pieces (names_of es) ∙ or_first (is_in n (names_of es)) (ap (λ y. is_in n y.pieces) at ∙ h)
has_names (x ∷ es) e n (suc k, l, at) h = list_any-append (same_name n) x.pieces (names_of es) ∙ or_second (is_in n x.pieces) (has_names es e n (k, omega (arith, l), at) h)

-- what lies under a name in a state, in its place or aside
abbrev Lies : State → Digest → List ℕ → Type 0
Lies z n b = (z.place n ≡ Some b) ⊎ (z.aside n ≡ Some b)

lies_in : (spot : Spot) (z : State) (n : Digest) (b : List ℕ) → lies spot z n ≡ Some b → Lies z n b
lies_in Place z n b e = inl e
lies_in Aside z n b e = inr e

-- a read is refused only for want of memory
not_read : (s t : State) (spot : Spot) (n : Digest) (r : Refusal) → Does s (Read spot n) (Refused r) t → r ≡ NoMemory
not_read s t spot n r (inl e) =
    let f : Bytes (lies spot s n) ≡ Refused r = ap (λ x. x.0) e in
    absurd cc
not_read s t spot n r (inr h) =
    let f : Refused r ≡ Refused NoMemory = h.1 in
    cc

no_day_read : (s t : State) (d : DayName) (r : Refusal) → Does s (ReadDay d) (Refused r) t → r ≡ NoMemory
no_day_read s t d r (inl e) =
    let f : Bytes (s.days d) ≡ Refused r = ap (λ x. x.0) e in
    absurd cc
no_day_read s t d r (inr h) =
    let f : Refused r ≡ Refused NoMemory = h.1 in
    cc

-- why a day file is not read
why : (r : Refusal) (P : Type 0) → Fails r P → (r ≡ NoMemory) ⊎ P
why NoMemory P x = inl refl
why BadDay P x = inr x
why other P x = absurd x

module _ {S : Type 0} (does : Doing S) (holds : S → State) (exact : IsExact holds does) where
  -- a spot that has no right bytes
  not_right : (spot : Spot) (n : Digest) (s t : S) → ReadsRight does spot n s (Ok None) t → (holds t ≡ holds s) × ((b : List ℕ) → lies spot (holds s) n ≡ Some b → digest_of b ≡ n → ⊥)
  not_right spot n s t (o, asked, wrong) =
      let k = read _ _ spot n o (exact s t _ _ asked) in
      (k.0, λ b e d. wrong b (sym k.1 ∙ e) d)

  -- a piece that is read lies there
  piece_read_in : (spots : List Spot) (n : Digest) (s t : S) (p : Vec ℕ Global) → ReadsFrom does spots n s (Ok p) t → (holds t ≡ holds s) × Lies (holds s) n (vec_items p)
  piece_read_in [] n s t p x = absurd x
  piece_read_in (spot ∷ spots) n s t p (inl (asked, e)) =
      let k = read _ _ spot n (Some (vec_items p)) (exact s t _ _ asked) in
      (k.0, lies_in spot (holds s) n (vec_items p) k.1)
  piece_read_in (spot ∷ spots) n s t p (inr (m, none, later)) =
      let k = piece_read_in spots n m t p later in
      let before = not_right spot n s m none in
      (k.0 ∙ before.0, subst (λ (z : State). Lies z n (vec_items p)) before.0 k.1)

  piece_read : (n : Digest) (s t : S) (p : Vec ℕ Global) → ReadsPiece does n s (Ok p) t → (holds t ≡ holds s) × Lies (holds s) n (vec_items p)
  piece_read n s t p reads = piece_read_in looks n s t p reads

  -- one that is there is read, if there is memory
  piece_unread : (n : Digest) (s t : S) (r : Refusal) → LiesRight (holds s) n → ReadsPiece does n s (Err r) t → r ≡ NoMemory
  piece_unread n s t r h (inl asked) = not_read _ _ Place n r (exact s t _ _ asked)
  piece_unread n s t r h (inr (m, none, inl asked)) = not_read _ _ Aside n r (exact m t _ _ asked)
  piece_unread n s t r (b, inl l, d) (inr (m, none, inr x)) = absurd ((not_right Place n s m none).1 b l d)
  piece_unread n s t r (b, inr l, d) (inr (m, none, inr (u, neither, x))) =
      absurd ((not_right Aside n m u neither).1 b (ap (λ (z : State). z.aside n) (not_right Place n s m none).0 ∙ l) d)

  -- having the pieces of this file read one after the other, from a store that holds z
  module _ (file : List ℕ) (z : State) where
    abbrev Found : List ℕ → Type 0
    Found p = Lies z (digest_of p) p

    abbrev names : List Digest
    names = map digest_of (pieces file)

    keeps : (n : Digest) (s t : S) (p : Vec ℕ Global) → holds s ≡ z → ReadsPiece does n s (Ok p) t → (holds t ≡ z) × Found (vec_items p)
    keeps n s t p same reads =
        let k = piece_read n s t p reads in
        (k.0 ∙ same, subst (λ (x : State × Digest). Lies x.0 x.1 (vec_items p)) (λ i. (same i, sym (has_name does n s t p reads) i)) k.1)

    clash : Differ Found (pieces file) → Clash z file
    clash d = record { place = d.place; within = d.within; other = d.other; lies = d.is; same = d.same; differ = d.differ }

    -- those that were read so far
    so_far : (k : ℕ) (s t : S) (v : List ℕ) → k ≤ length names → holds s ≡ z → Times (at (record { bytes = [] }) (JoinsPiece does (length file)) names) k s [] t v → Joined does (λ u. holds u ≡ z) Found keeps (length file) names k t v
    so_far k s t v l same h = joins does (λ u. holds u ≡ z) Found keeps (length file) names k s t v l same h

    -- all of them make the file, or two strings clash
    all_read : (s t : S) (v : List ℕ) → holds s ≡ z → JoinsAll does (length file) names s [] (Ok tt) t v → (holds t ≡ z) × ((v ≡ file) ⊎ Clash z file)
    all_read s t v same h =
        let j = so_far (length names) s t v (omega arith) same (each_is_done (record { bytes = [] }) (JoinsPiece does (length file)) names s t [] v h) in
        (j.well, is j.parts j.joined (prefix_or_differ Found (length names) j.parts (pieces file) j.each j.names))
      where
        is : (ps : List (List ℕ)) → concat ps ≡ v → (ps ≡ take (length names) (pieces file)) ⊎ Differ Found (pieces file) → (v ≡ file) ⊎ Clash z file
        is ps joined (inl e) = inl (sym joined ∙ ap concat (e ∙ take_all (length names) (pieces file) (omega (arith, length-map (pieces file) digest_of))) ∙ whole file)
        is ps joined (inr d) = inr (clash d)

    -- the first pieces of a file have no more bytes than it has
    few : (k : ℕ) → length (concat (take k (pieces file))) ≤ length file
    few k =
        let both : concat (take k (pieces file)) ++ concat (drop k (pieces file)) ≡ file = sym (concat-append (take k (pieces file)) (drop k (pieces file))) ∙ ap concat (take-append-drop k (pieces file)) ∙ whole file in
        omega (arith, length-append (concat (take k (pieces file))) (concat (drop k (pieces file))), ap length both)

    -- one of them is not read: there is no memory; or they are too long, and two strings clash
    not_all : (s t : S) (v : List ℕ) (r : Refusal) → holds s ≡ z → ((n : Digest) → is_in n names ≡ true → LiesRight z n) → JoinsAll does (length file) names s [] (Err r) t v → (r ≡ NoMemory) ⊎ Clash z file
    not_all s t v r same there h =
        let (k, l, m, w, before, last) = each_is_stopped (record { bytes = [] }) (JoinsPiece does (length file)) names s t [] v r h in
        stopped k l m w (so_far k s m w (omega (arith, l)) same before) last
      where
        too_long : (k : ℕ) (ps : List (List ℕ)) → length file < length (concat ps) → (ps ≡ take k (pieces file)) ⊎ Differ Found (pieces file) → Clash z file
        too_long k ps long (inl e) = absurd (omega (arith, few k, ap (λ x. length (concat x)) e, long))
        too_long k ps long (inr d) = clash d

        stopped : (k : ℕ) → k < length names → (m : S) (w : List ℕ) → Joined does (λ u. holds u ≡ z) Found keeps (length file) names k m w → JoinsPiece does (length file) (slice_index_or names k (record { bytes = [] })) m w (Err r) t v →
            (r ≡ NoMemory) ⊎ Clash z file
        stopped k l m w j (inl unread) =
            let n = slice_index_or names k (record { bytes = [] }) in
            inl (piece_unread n m t r (subst (λ x. LiesRight x n) (sym j.well) (there n (list_any_at (same_name n) names k (record { bytes = [] }) l ((names_decide n n).1 refl)))) unread)
        stopped k l m w j (inr (p, reads, (long, e))) =
            let more = one_more does (λ u. holds u ≡ z) Found keeps (length file) names k m t w p l j reads in
            inr (too_long (k + 1) more.parts (omega (arith, length-append w (vec_items p), ap length more.joined, long)) (prefix_or_differ Found (k + 1) more.parts (pieces file) more.each more.names))

  -- so is a file of a day whose pieces are all there
  joins_back : (path file : List ℕ) (s t : S) (a : Result (Vec ℕ Global) Refusal) → ((n : Digest) → is_in n (map digest_of (pieces file)) ≡ true → LiesRight (holds s) n) → Joins does (file_entry path file) s a t → GivenBack (holds s) file a
  joins_back path file s t (Ok v) there (all, size) = (all_read file (holds s) s t (vec_items v) refl all).1
  joins_back path file s t (Err r) there (inl (e, same)) = inl e
  joins_back path file s t (Err r) there (inr (v, inl some)) = not_all file (holds s) s t v r refl there some
  joins_back path file s t (Err r) there (inr (v, inr (all, size, e))) = other (all_read file (holds s) s t v refl all).1
    where
      other : (v ≡ file) ⊎ Clash (holds s) file → (r ≡ NoMemory) ⊎ Clash (holds s) file
      other (inl same) = absurd (size (ap length same))
      other (inr c) = inr c

  -- the day file that was read has these files
  files_are : (d : DayName) (es fs : List Entry) (b : List ℕ) (s m : S) → HasFiles (holds s) d es → does s (ReadDay d) (Bytes (Some b)) m → IsDayOf d fs b → (holds m ≡ holds s) × (fs ≡ es)
  files_are d es fs b s m h asked is =
      let k = read_day _ _ d (Some b) (exact s m _ _ asked) in
      let f : Some b ≡ Some (day_file d es) = sym k.1 ∙ h.1 in
      let same : b ≡ day_file d es = cc in
      (k.0, one_form d fs es is.0 h.0 (sym is.1 ∙ same))

  -- and its file of this path is this one
  file_is : (d : DayName) (path file : List ℕ) (es fs : List Entry) (e : Entry) → AreFiles es → fs ≡ es → Contains es (file_entry path file) → Contains fs e → e.path ≡ path → e ≡ file_entry path file
  file_is d path file es fs e h same c has at = same_file es e (file_entry path file) h (subst (λ x. Contains x e) same has) c at

  -- its pieces are there when the day's file is read
  still_there : (path file : List ℕ) (es : List Entry) (s m : S) → holds m ≡ holds s → Contains es (file_entry path file) → ((n : Digest) → is_in n (names_of es) ≡ true → LiesRight (holds s) n) → (n : Digest) → is_in n (map digest_of (pieces file)) ≡ true → LiesRight (holds m) n
  still_there path file es s m same c there n h = subst (λ z. LiesRight z n) (sym same) (there n (has_names es (file_entry path file) n c h))

  -- of the path that is asked for there is a file
  has_path : (path file : List ℕ) (es fs : List Entry) → fs ≡ es → Contains es (file_entry path file) → HasNoPath fs path → ⊥
  has_path path file es fs same c none = none (file_entry path file) (subst (λ x. Contains x (file_entry path file)) (sym same) c) refl

  given : (d : DayName) (path file : List ℕ) (es : List Entry) (s t : S) (a : Result (Vec ℕ Global) Refusal) → HasFiles (holds s) d es → Contains es (file_entry path file) →
      ((n : Digest) → is_in n (names_of es) ≡ true → LiesRight (holds s) n) → Backs does d path s a t → GivenBack (holds s) file a
  given d path file es s t (Ok v) h c there (b, fs, e, m, asked, is, has, same, joined) =
      let k = files_are d es fs b s m h asked is in
      subst (λ z. GivenBack z file (Ok v)) k.0 (joins_back path file m t (Ok v) (still_there path file es s m k.0 c there) (subst (λ x. Joins does x m (Ok v) t) (file_is d path file es fs e h.0 k.1 c has same) joined))
  given d path file es s t (Err r) h c there (inl asked) = inl (no_day_read _ _ d r (exact s t _ _ asked))
  given d path file es s t (Err r) h c there (inr (inl (asked, e))) =
      let f : None ≡ Some (day_file d es) = sym (read_day _ _ d None (exact s t _ _ asked)).1 ∙ h.1 in
      absurd cc
  given d path file es s t (Err r) h c there (inr (inr (inl (b, asked, unread)))) =
      let f : Some b ≡ Some (day_file d es) = sym (read_day _ _ d (Some b) (exact s t _ _ asked)).1 ∙ h.1 in
      let same : b ≡ day_file d es = cc in
      not_read_why (why r _ unread) same
    where
      not_read_why : (r ≡ NoMemory) ⊎ ((fs : List Entry) → IsDayOf d fs b → ⊥) → b ≡ day_file d es → (r ≡ NoMemory) ⊎ Clash (holds s) file
      not_read_why (inl e) same = inl e
      not_read_why (inr other) same = absurd (other es (h.0, same))
  given d path file es s t (Err r) h c there (inr (inr (inr (inl (b, fs, asked, is, none, e))))) = absurd (has_path path file es fs (files_are d es fs b s t h asked is).1 c none)
  given d path file es s t (Err r) h c there (inr (inr (inr (inr (b, fs, e, m, asked, is, has, same, joined))))) =
      let k = files_are d es fs b s m h asked is in
      subst (λ z. GivenBack z file (Err r)) k.0 (joins_back path file m t (Err r) (still_there path file es s m k.0 c there) (subst (λ x. Joins does x m (Err r) t) (file_is d path file es fs e h.0 k.1 c has same) joined))

  -- having a file back changes nothing
  unread_same : (spots : List Spot) (n : Digest) (s t : S) (r : Refusal) → ReadsFrom does spots n s (Err r) t → holds t ≡ holds s
  unread_same [] n s t r (same, e) = ap holds same
  unread_same (spot ∷ spots) n s t r (inl asked) = refused _ _ (Read spot n) r (exact s t _ _ asked)
  unread_same (spot ∷ spots) n s t r (inr (m, none, later)) = unread_same spots n m t r later ∙ (not_right spot n s m none).0

  reads_same : (most : ℕ) (ns : List Digest) (k : ℕ) (s t : S) (v : List ℕ) → k ≤ length ns → Times (at (record { bytes = [] }) (JoinsPiece does most) ns) k s [] t v → holds t ≡ holds s
  reads_same most ns k s t v l h = (joins does (λ u. holds u ≡ holds s) (λ p. Unit {0}) (λ n u w p same r. ((piece_read n u w p r).0 ∙ same, tt)) most ns k s t v l refl h).well

  joins_same : (e : Entry) (s t : S) (a : Result (Vec ℕ Global) Refusal) → Joins does e s a t → holds t ≡ holds s
  joins_same e s t (Ok v) (all, size) = reads_same e.length e.pieces (length e.pieces) s t (vec_items v) (omega arith) (each_is_done (record { bytes = [] }) (JoinsPiece does e.length) e.pieces s t [] (vec_items v) all)
  joins_same e s t (Err r) (inl (f, same)) = ap holds same
  joins_same e s t (Err r) (inr (v, inr (all, size, f))) = reads_same e.length e.pieces (length e.pieces) s t v (omega arith) (each_is_done (record { bytes = [] }) (JoinsPiece does e.length) e.pieces s t [] v all)
  joins_same e s t (Err r) (inr (v, inl some)) =
      let (k, l, m, w, before, last) = each_is_stopped (record { bytes = [] }) (JoinsPiece does e.length) e.pieces s t [] v r some in
      stopped k m w last ∙ reads_same e.length e.pieces k s m w (omega (arith, l)) before
    where
      stopped : (k : ℕ) (m : S) (w : List ℕ) → JoinsPiece does e.length (slice_index_or e.pieces k (record { bytes = [] })) m w (Err r) t v → holds t ≡ holds m
      stopped k m w (inl unread) = unread_same looks _ m t r unread
      stopped k m w (inr (p, reads, x)) = (piece_read _ m t p reads).0

  day_same : (d : DayName) (s t : S) (o : Option (List ℕ)) → does s (ReadDay d) (Bytes o) t → holds t ≡ holds s
  day_same d s t o asked = (read_day _ _ d o (exact s t _ _ asked)).0

  unchanged : (d : DayName) (path : List ℕ) (s t : S) (a : Result (Vec ℕ Global) Refusal) → Backs does d path s a t → holds t ≡ holds s
  unchanged d path s t (Ok v) (b, fs, e, m, asked, is, has, same, joined) = joins_same e m t (Ok v) joined ∙ day_same d s m (Some b) asked
  unchanged d path s t (Err r) (inl asked) = refused _ _ (ReadDay d) r (exact s t _ _ asked)
  unchanged d path s t (Err r) (inr (inl (asked, e))) = day_same d s t None asked
  unchanged d path s t (Err r) (inr (inr (inl (b, asked, unread)))) = day_same d s t (Some b) asked
  unchanged d path s t (Err r) (inr (inr (inr (inl (b, fs, asked, is, none, e))))) = day_same d s t (Some b) asked
  unchanged d path s t (Err r) (inr (inr (inr (inr (b, fs, e, m, asked, is, has, same, joined))))) = joins_same e m t (Err r) joined ∙ day_same d s m (Some b) asked

pub files_come_back : {S : Type 0} (does : Doing S) (holds : S → State) → IsExact holds does → FilesComeBack does holds
files_come_back does holds exact = record { given = given does holds exact; unchanged = unchanged does holds exact }
