-- A whole day that is made of the files of a source, over an exact store.
-- Assumes nothing.
use Rattle.std.proofs.Common.{◌≡◌, ◌⊎◌, ℕ, suc, ◌+◌, inl, inr, ap, sym, subst, refl, ◌∙◌, List, [], ◌∷◌, ◌++◌, Some, None, Ok, Err, Option, Result, append-nil, append_assoc}
use Rattle.std.proofs.lemmas.List.{map-append}
use Rattle.cutting.specs.declared.refusal.Refusal.{Refusal}
use Rattle.store.specs.Asking.{Doing, IsExact}
use Rattle.store.specs.State.{State}
use Rattle.dayfile.specs.Entries.{Entry}
use Rattle.dayfile.specs.Form.{day_file}
use Rattle.dayfile.specs.Limits.{AreFiles}
use Rattle.dayfile.specs.Stored.{HasFiles}
use Rattle.days.specs.declared.done.Done.{Done}
use Rattle.days.specs.declared.done.Done.TheVariants.{Begun, Found, Written, Added, Raised, Named, BrokenOff}
use Rattle.days.specs.Files.{Gives, WholeDays, WholeDaysAreSteps, entries}
use Rattle.days.specs.Machines.{Work, new_day, with_file, with_number}
use Rattle.days.specs.Promise.{file_entry}
use Rattle.days.specs.Sources.{Giving}
use Rattle.days.specs.Steps.{Adds, AddsCut, DayRaises, Ends, Names, Raises}
use Rattle.days.specs.System.{Within, World, breaks, world}
use Rattle.days.specs.Wholes.{AddsFiles, Finishes, MakesDay, more, none}
use Rattle.days.specs.Within.{IsWithin}
use Rattle.dayfile.proofs.Rising.{no_files}
use Rattle.days.proofs.Cuts.{whole_entry}
use Rattle.days.proofs.Kept.{kept}
use Rattle.days.proofs.Moves.{after, at_last, moves, put_here}
use Rattle.days.proofs.Untouched as untouched
use Rattle.days.proofs.Untouched.{Same}
use Rattle.days.proofs.Within.{are_steps}

-- a machine makes one day at most
one_day : {o : Option Work} {v w : Work} → o ≡ Some v → o ≡ Some w → v ≡ w
one_day {v = v} {w = w} e f =
    let k : Some v ≡ Some w = sym e ∙ f in
    cc

module _ {S : Type 0} (does : Doing S) (i : ℕ) where
  -- a file that is added is the last one of the day, whole
  record OneMore (e : Entry) (w v : Option Work) : Type 0 where
    day : Work
    before : w ≡ Some day
    are : AreFiles (day.files ++ e ∷ [])
    now : v ≡ Some (with_file e day)

  cut_added : (path file : List ℕ) (w v : Work) (s t : S) (d : Done) → AddsCut does i path file w s (Ok d) v t → AreFiles (w.files ++ file_entry path file ∷ []) × (v ≡ with_file (file_entry path file) w)
  cut_added path file w v s t (Added a) (may, all, count, g) = subst (λ e. AreFiles (w.files ++ e ∷ []) × (v ≡ with_file e w)) (whole_entry path file) (may.0, g)
  cut_added path file w v s t Begun x = absurd x
  cut_added path file w v s t (Found k) x = absurd x
  cut_added path file w v s t (Written k) x = absurd x
  cut_added path file w v s t (Raised k) x = absurd x
  cut_added path file w v s t (Named k) x = absurd x
  cut_added path file w v s t BrokenOff x = absurd x

  added : (path file : List ℕ) (old new : Option Work) (s t : S) (d : Done) → Adds does i path file old s (Ok d) new t → OneMore (file_entry path file) old new
  added path file old new s t d (inl (r, is, why, same, h)) =
      let f : Ok d ≡ Err r = is in
      absurd cc
  added path file old new s t d (inr (short, is_path, inl (r, is, same, h))) =
      let f : Ok d ≡ Err r = is in
      absurd cc
  added path file old new s t d (inr (short, is_path, inr (w, e, m, k, (v, f, x)))) =
      let y = cut_added path file w v m t d x in
      record { day = w; before = e; are = y.0; now = f ∙ ap Some y.1 }

  -- a number that is raised is the day's
  day_raised : (w v : Work) (s t : S) (d : Done) → DayRaises does i w s (Ok d) v t → (k : ℕ) × (v ≡ with_number k w)
  day_raised w v s t (Raised k) (n, g, h, below, is, x) = (k, g)
  day_raised w v s t Begun x = absurd x
  day_raised w v s t (Found k) x = absurd x
  day_raised w v s t (Written k) x = absurd x
  day_raised w v s t (Added k) x = absurd x
  day_raised w v s t (Named k) x = absurd x
  day_raised w v s t BrokenOff x = absurd x

  raised : (old new : Option Work) (s t : S) (d : Done) → Raises does i old s (Ok d) new t → (w : Work) × (old ≡ Some w) × ((k : ℕ) × (new ≡ Some (with_number k w)))
  raised old new s t d (inl (r, is, same, h)) =
      let f : Ok d ≡ Err r = is in
      absurd cc
  raised old new s t d (inr (w, e, m, l, (v, f, x))) =
      let y = day_raised w v m t d x in
      (w, e, (y.0, f ∙ ap Some y.1))

  -- what names a day answers its number
  named : (old new : Option Work) (s t : S) (d : Done) → Names does i old s (Ok d) new t → (k : ℕ) × (d ≡ Named k)
  named old new s t d (inl (r, is, same, h)) =
      let f : Ok d ≡ Err r = is in
      absurd cc
  named old new s t d (inr (w, e, m, l, x)) = go d x
    where
      go : (d : Done) → Ends does i w m (Ok d) new t → (k : ℕ) × (d ≡ Named k)
      go (Named k) x = (k, refl)
      go Begun x = absurd x
      go (Found k) x = absurd x
      go (Written k) x = absurd x
      go (Added k) x = absurd x
      go (Raised k) x = absurd x
      go BrokenOff x = absurd x

module _ {S F : Type 0} (does : Doing S) (gives : Giving F) (i : ℕ) where
  -- what was given, and then more
  given : (old : Option Work) (s : S) (x z : F) (new : Option Work) (t : S) (y : F) (fs rest : List (List ℕ × List ℕ)) → AddsFiles does gives i old s x fs new t y → Gives gives y rest z → Gives gives x (fs ++ rest) z
  given old s x z new t y fs rest none h = h
  given old s x z new t y _ rest (more {fs} {w} {m} {y = n} f d before g a) h = subst (λ l. Gives gives x l z) (sym (append_assoc fs (f ∷ []) rest)) (given old s x z w m n fs (f ∷ rest) before (y, g, h))

  -- a day to which just these files were added
  record Has (fs : List (List ℕ × List ℕ)) (o : Option Work) : Type 0 where
    day : Work
    is : o ≡ Some day
    files : day.files ≡ entries fs
    are : AreFiles (entries fs)

  has : (s : S) (x : F) (new : Option Work) (t : S) (y : F) (fs : List (List ℕ × List ℕ)) → AddsFiles does gives i (Some new_day) s x fs new t y → Has fs new
  has s x new t y fs none = record { day = new_day; is = refl; files = refl; are = no_files }
  has s x new t y _ (more {fs} {w} {m} {y = n} f d before g a) =
      let h = has s x w m n fs before in
      let e = file_entry f.0 f.1 in
      let b = added does i f.0 f.1 w new m t d a in
      let all : b.day.files ++ e ∷ [] ≡ entries (fs ++ f ∷ []) = ap (λ (z : Work). z.files ++ e ∷ []) (one_day b.before h.is) ∙ ap (λ l. l ++ e ∷ []) h.files ∙ sym (map-append (λ (q : List ℕ × List ℕ). file_entry q.0 q.1) fs (f ∷ [])) in
      record { day = with_file e b.day; is = b.now; files = all; are = subst AreFiles all b.are }

module _ {S F : Type 0} (does : Doing S) (gives : Giving F) (holds : S → State) (exact : IsExact holds does) where
  -- the day to which all given files were added is the one that gets its name
  finished : (i : ℕ) (s t m u : S) (x y z : F) (fs : List (List ℕ × List ℕ)) (old o v new : Option Work) (c d : Done) → old ≡ Some new_day → AddsFiles does gives i old s x fs o m z → gives z (Ok None) y →
      Raises does i o m (Ok c) v u → Names does i v u (Ok d) new t →
      (k : ℕ) × (d ≡ Named k) × (fs : List (List ℕ × List ℕ)) × Gives gives x fs y × HasFiles (holds t) (record { machine = i; number = k }) (entries fs)
  finished i s t m u x y z fs old o v new c d e all last up name =
      let h = has does gives i s x o m z fs (subst (λ q. AddsFiles does gives i q s x fs o m z) e all) in
      let (w, is, (n, now)) = raised does i o v m u c up in
      let (k, is_k) = named does i v new u t d name in
      let (day, is_day, number, there) = (kept does holds exact).named i k v new u t (subst (λ q. Names does i v u (Ok q) new t) is_k name) in
      let files : day.files ≡ entries fs = ap (λ (q : Work). q.files) (one_day is_day now) ∙ ap (λ (q : Work). q.files) (one_day is h.is) ∙ h.files in
      (k, is_k, fs, rw append-nil at (given does gives i old s x y o m z fs [] all last), (h.are, there ∙ ap (λ es. Some (day_file (record { machine = i; number = k }) es)) files))

  made : (i : ℕ) (old new : Option Work) (s t : S) (x y : F) (d : Done) → MakesDay does gives i old s x (Ok d) new t y →
      (k : ℕ) × (d ≡ Named k) × (fs : List (List ℕ × List ℕ)) × Gives gives x fs y × HasFiles (holds t) (record { machine = i; number = k }) (entries fs)
  made i old new s t x y d (inl (r, is, b, e)) =
      let f : Ok d ≡ Err r = is in
      absurd cc
  made i old new s t x y d (inr (c, w, m, b, e, inl (r, is, a))) =
      let f : Ok d ≡ Err r = is in
      absurd cc
  made i old new s t x y d (inr (c, w, m, b, e, inr (v, u, a, inl (r, o, is, k)))) =
      let f : Ok d ≡ Err r = is in
      absurd cc
  made i old new s t x y d (inr (c, w, m, b, e, inr (v, u, (fs, z, all, last), inr (c', v', m', new', up, name)))) =
      finished i m t u m' x y z fs w v v' new' c' d (untouched.begun does holds exact i old w s m c b).0 all last up name

  -- where no day is made, the days are as they were
  files_same : (i : ℕ) (old : Option Work) (s : S) (x : F) (new : Option Work) (t : S) (y : F) (fs : List (List ℕ × List ℕ)) → AddsFiles does gives i old s x fs new t y → Same does holds exact s t
  files_same i old s x new t y fs none = refl
  files_same i old s x new t y _ (more {fs} {w} {m} {y = n} f d before g a) = untouched.adds does holds exact i f.0 f.1 w new m t (Ok d) a ∙ files_same i old s x w m n fs before

  not_finished : (i : ℕ) (old : Option Work) (s t : S) (x y : F) (r : Refusal) → Finishes does gives i old s x (Err r) t y → Same does holds exact s t
  not_finished i old s t x y r (inl (q, is, (fs, w, m, z, all, inl (g, e)))) = untouched.same does holds exact e ∙ files_same i old s x w m z fs all
  not_finished i old s t x y r (inl (q, is, (fs, w, m, z, all, inr (f, v, g, a)))) = untouched.adds does holds exact i f.0 f.1 w v m t (Err q) a ∙ files_same i old s x w m z fs all
  not_finished i old s t x y r (inr (w, m, (fs, z, all, last), inl (q, v, is, up))) = untouched.raises does holds exact i w v m t (Err q) up ∙ files_same i old s x w m z fs all
  not_finished i old s t x y r (inr (w, m, (fs, z, all, last), inr (c, v, u, new, up, name))) =
      untouched.names does holds exact i v new u t r name ∙ untouched.raises does holds exact i w v m u (Ok c) up ∙ files_same i old s x w m z fs all

  not_made : (i : ℕ) (old new : Option Work) (s t : S) (x y : F) (r : Refusal) → MakesDay does gives i old s x (Err r) new t y → ((holds t).days ≡ (holds s).days) × ((new ≡ old) ⊎ (new ≡ None))
  not_made i old new s t x y r (inl (q, is, b, e)) = (untouched.begins does holds exact i old new s t q b, inl b.0)
  not_made i old new s t x y r (inr (c, w, m, b, e, h)) = (not_finished i w m t x y r h ∙ (untouched.begun does holds exact i old w s m c b).1, inr e)

  -- some steps of the system lead to where machine i makes this, over this store
  abbrev Reaches : World → ℕ → Option Work → S → Type 0
  Reaches w i d s = (n : ℕ) × Within n w (world (holds s) i d w)

  -- and some more, after a step of the code
  onward : (n : ℕ) (step : ℕ → Option Work → S → Result Done Refusal → Option Work → S → Type 0) → IsWithin does n step → (w : World) (i : ℕ) (s t : S) (a : Result Done Refusal) (d new : Option Work) → Reaches w i d s → step i d s a new t
      → Reaches w i new t
  onward n step runs w i s t a d new (k, r) x =
      let u = world (holds s) i d w in
      let q = runs holds exact u i s t a new refl (subst (λ o. step i o s a new t) (sym (put_here i d w.makes)) x) in
      (n + k, at_last w w i (holds s) (holds t) d new (after r q))

  -- the last of them breaks off
  ended : (w : World) (i : ℕ) (s : S) (d : Option Work) → Reaches w i d s → Reaches w i None s
  ended w i s d (k, r) =
      let u = world (holds s) i d w in
      (suc k, at_last w w i (holds s) (holds s) d None (moves w u i _ (holds s) None None r (breaks u i) refl refl))

  adds_files : (w : World) (i : ℕ) (old : Option Work) (s : S) (x : F) (new : Option Work) (t : S) (y : F) (fs : List (List ℕ × List ℕ)) → Reaches w i old s → AddsFiles does gives i old s x fs new t y → Reaches w i new t
  adds_files w i old s x new t y fs r none = r
  adds_files w i old s x new t y _ r (more {fs} {w = v} {m} {y = n} f d before g a) =
      onward _ (λ j. Adds does j f.0 f.1) ((are_steps does).adds f.0 f.1) w i m t (Ok d) v new (adds_files w i old s x v m n fs r before) a

  finishes : (w : World) (i : ℕ) (old : Option Work) (s t : S) (x y : F) (a : Result Done Refusal) → Reaches w i old s → Finishes does gives i old s x a t y → Reaches w i None t
  finishes w i old s t x y a r (inl (q, is, (fs, v, m, z, all, inl (g, e)))) = ended w i t v (subst (Reaches w i v) (sym e) (adds_files w i old s x v m z fs r all))
  finishes w i old s t x y a r (inl (q, is, (fs, v, m, z, all, inr (f, v', g, b)))) =
      ended w i t v' (onward _ (λ j. Adds does j f.0 f.1) ((are_steps does).adds f.0 f.1) w i m t (Err q) v v' (adds_files w i old s x v m z fs r all) b)
  finishes w i old s t x y a r (inr (v, m, (fs, z, all, last), inl (q, v', is, up))) = ended w i t v' (onward 1 (Raises does) (are_steps does).raises w i m t (Err q) v v' (adds_files w i old s x v m z fs r all) up)
  finishes w i old s t x y a r (inr (v, m, (fs, z, all, last), inr (c, v', u, new, up, name))) =
      ended w i t new (onward 1 (Names does) (are_steps does).names w i u t a v' new (onward 1 (Raises does) (are_steps does).raises w i m u (Ok c) v v' (adds_files w i old s x v m z fs r all) up) name)

  pub steps : WholeDaysAreSteps does gives holds
  steps w i s t x y a new h (inl (r, is, b, e)) = (1, (are_steps does).begins holds exact w i s t (Err r) new h b)
  steps w i s t x y a new h (inr (c, v, m, b, e, f)) = subst (λ o. Reaches w i o t) (sym e) (finishes w i v m t x y a (1, (are_steps does).begins holds exact w i s m (Ok c) v h b) f)

  pub whole : WholeDays does gives holds
  whole = record { made = made; not_made = not_made }
