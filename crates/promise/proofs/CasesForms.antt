-- Lines that are played keep days of their form, with no pieces but those that pass.
-- Assumes nothing.
use Rattle.std.proofs.Common.{◌≡◌, ℕ, ◌≤◌, arith, lit≤, true, List, [], ◌∷◌, ◌++◌, length, Some, None, Option, refl}
use Rattle.std.specs.List.Sorted.{IsStrictlySortedBy}
use Rattle.std.specs.Option.{unwrap_or}
use Rattle.digest.specs.declared.value.Digest.{Digest}
use Rattle.digest.specs.Digests.{digest_of}
use Rattle.digest.specs.Sha256.{big_endian, joined_words, sha256, word_bytes}
use Rattle.store.specs.declared.day.DayName.{DayName}
use Rattle.store.specs.Effects.{put_aside, put_back, with_day}
use Rattle.store.specs.State.{State, is_in, most_in_piece}
use Rattle.dayfile.specs.Entries.{Entry, names_of}
use Rattle.dayfile.specs.Form.{day_file}
use Rattle.dayfile.specs.Limits.{AreFiles, IsEntry}
use Rattle.dayfile.specs.Stored.{IsDayOf}
use Rattle.days.specs.Machines.{Work, new_day}
use Rattle.days.specs.System.{put}
use Rattle.sweeper.specs.Pieces.{FoundHas, IsFound}
use Rattle.promise.specs.Cases.{Line, add, aside, back, begin, break, find, forget, go, list, name, one_piece, raise, write}
use Rattle.promise.specs.System.{World}
use Rattle.promise.proofs.CasesPlay.{after, next, work}
use Rattle.promise.proofs.Forms.{are_no_files}
use Rattle.promise.proofs.Names.{tests}
use Rattle.dayfile.proofs.OneForm.{one_form}

ruleset keep = (arith, tests)

-- a digest has 32 bytes
name_length : (m : List ℕ) → length (digest_of m).bytes ≡ 32
unfolding digest_of sha256 joined_words word_bytes big_endian
name_length m = refl

-- a file that is one piece, of at least one byte, may be a day's only one
pub one_file : (p : List ℕ) → 1 ≤ length p → length p ≤ most_in_piece → AreFiles (one_piece p ∷ [])
unfolding IsStrictlySortedBy
one_file p least few = record { count = lit≤ tt; each = (entry, tt); rising = (tt, tt) }
  where
    entry : IsEntry (one_piece p)
    entry = record { path = record { least = lit≤ tt; most = lit≤ tt }; bytes = omega arith; count = lit≤ tt; none = λ e. absurd (omega arith); names = (name_length p, tt) }

module _ (P : Digest → Type 0) where
  -- a day may have these files, and each of their pieces passes
  pub Files : List Entry → Type 0
  Files es = AreFiles es × ((n : Digest) → is_in n (names_of es) ≡ true → P n)

  pub to_files : {es : List Entry} → AreFiles es → ((n : Digest) → is_in n (names_of es) ≡ true → P n) → Files es
  unfolding Files
  to_files a h = (a, h)

  no_files : Files []
  unfolding Files
  no_files = (are_no_files, λ n h. absurd cc)

  -- these bytes are the file of such a day
  pub Day : DayName → List ℕ → Type 0
  Day d b = (es : List Entry) × Files es × (b ≡ day_file d es)

  to_day : (d : DayName) (es : List Entry) → Files es → Day d (day_file d es)
  unfolding Day
  to_day d es f = (es, f, refl)

  -- so is each that lies under the name of a day, or each that a machine makes
  abbrev pub Days : (DayName → Option (List ℕ)) → Type 0
  Days f = (d : DayName) (b : List ℕ) → f d ≡ Some b → Day d b

  abbrev pub Works : (ℕ → Option Work) → Type 0
  Works m = (i : ℕ) (c : Work) → m i ≡ Some c → Files c.files

  pub record Formed (w : World) : Type 0 where
    pub days : Days w.store.days
    pub works : Works w.makes

  -- then all that can be found passes, and is of its form
  pub passes : (s : State) → Days s.days → (n : Digest) → FoundHas s n → P n
  unfolding Day Files
  passes s f n h =
      let (es, (a, k), e) = f h.day _ h.is_there.1 in
      let g : h.files ≡ es = one_form h.day h.files es h.is_there.0 a e in
      k n (rw g at h.has)

  pub forms : (s : State) → Days s.days → (d : DayName) (b : List ℕ) → IsFound s d → s.days d ≡ Some b → (es : List Entry) × IsDayOf d es b
  unfolding Day Files
  forms s f d b i e = let (es, (a, k), g) = f d b e in (es, (a, g))

  -- days stay so when one is named, or let go, or a piece moves; and so do those under way
  named : (s : State) (d : DayName) (es : List Entry) → Files es → Days s.days → Days (with_day d (Some (day_file d es)) s).days
  named s d es f h q b e = let g = to_day d es f in grind keep

  let_go : (s : State) (d : DayName) → Days s.days → Days (with_day d None s).days
  let_go s d h q b e = grind keep

  aside_days : (n : Digest) (o : Option (List ℕ)) (s : State) → Days s.days → Days (put_aside n o s).1.days
  aside_days n None s h = h
  aside_days n (Some b) s h = h

  back_days : (n : Digest) (o : Option (List ℕ)) (s : State) → Days s.days → Days (put_back n o s).1.days
  back_days n None s h = h
  back_days n (Some b) s h = h

  making : (i : ℕ) (c : Work) (m : ℕ → Option Work) → Files c.files → Works m → Works (put i (Some c) m)
  making i c m f h j x e = grind keep

  not_making : (i : ℕ) (m : ℕ → Option Work) → Works m → Works (put i None m)
  not_making i m h j x e = grind keep

  makes : (w : World) (i : ℕ) → Works w.makes → Files (work w i).files
  makes w i h = go (w.makes i) refl
    where
      go : (o : Option Work) → w.makes i ≡ o → Files (unwrap_or o new_day).files
      go None e = no_files
      go (Some c) e = h i c e

  -- so it is after a line, if a file that it adds may follow the others, and its pieces pass; and after lines
  Adds : Line → World → Type 0
  Adds (add i e) w = Files ((work w i).files ++ e ∷ [])
  Adds other w = Unit {0}

  formed_next : (l : Line) (w : World) → Adds l w → Formed w → Formed (next l w)
  unfolding Adds
  formed_next (begin i) w a f = record { days = f.days; works = making i new_day w.makes no_files f.works }
  formed_next (find i p) w a f = record { days = f.days; works = making i _ w.makes (makes w i f.works) f.works }
  formed_next (list i n) w a f = record { days = f.days; works = making i _ w.makes (makes w i f.works) f.works }
  formed_next (write i p) w a f = record { days = f.days; works = making i _ w.makes (makes w i f.works) f.works }
  formed_next (add i e) w a f = record { days = f.days; works = making i _ w.makes a f.works }
  formed_next (forget i) w a f = record { days = f.days; works = making i _ w.makes (makes w i f.works) f.works }
  formed_next (raise i) w a f = record { days = f.days; works = making i _ w.makes (makes w i f.works) f.works }
  formed_next (name i) w a f = record { days = named w.store _ (work w i).files (makes w i f.works) f.days; works = not_making i w.makes f.works }
  formed_next (break i) w a f = record { days = f.days; works = not_making i w.makes f.works }
  formed_next (go day) w a f = record { days = let_go w.store day f.days; works = f.works }
  formed_next (aside n) w a f = record { days = aside_days n (w.store.place n) w.store f.days; works = f.works }
  formed_next (back n) w a f = record { days = back_days n (w.store.aside n) w.store f.days; works = f.works }
  formed_next other w a f = record { days = f.days; works = f.works }

  abbrev pub AddAll : List Line → World → Type 0
  AddAll [] w = Unit {0}
  AddAll (add i e ∷ ls) w = Files ((work w i).files ++ e ∷ []) × AddAll ls (next (add i e) w)
  AddAll (l ∷ ls) w = AddAll ls (next l w)

  pub formed : (ls : List Line) (w : World) → AddAll ls w → Formed w → Formed (after ls w)
  unfolding Adds
  formed [] w a f = f
  formed (add i e ∷ ls) w (a, b) f = formed ls _ b (formed_next (add i e) w a f)
  formed (l ∷ ls) w a f = formed ls _ a (formed_next l w tt f)
