-- The steps of a machine: what it asks of a store, in which order, what it answers, and what it makes then.
-- Each is of machine i, which makes `old` before it and `new` after it, with the answer a, and leads the store from s to t.
-- Assumes nothing.
use Rattle.std.specs.Prelude.{◌≡◌, ◌≢◌, ◌⊎◌, ℕ, ◌+◌, ◌/◌, ◌%◌, ◌<◌, ◌≤◌, List, [], ◌∷◌, ◌++◌, length, map, Some, None, Ok, Err, Bool, true, false, cond, Option, Result, slice_index_or}
use Rattle.std.specs.List.{concat}
use Rattle.cutting.specs.Results.{NotCut}
use Rattle.cutting.specs.Rule.{most_in_file, pieces}
use Rattle.cutting.specs.declared.refusal.Refusal.{Refusal}
use Rattle.cutting.specs.declared.refusal.Refusal.TheVariants.{HasNoNumber, HasNumber, LastNumber, MakesDay, MakesNone, NoMemory, PieceEmpty, PieceTooLong}
use Rattle.digest.specs.Digests.{digest_of}
use Rattle.store.specs.declared.piece.Spot.TheVariants.{Place}
use Rattle.store.specs.Requests as request
use Rattle.store.specs.Requests.{Request, Answer, Read, Enlist, Write, Highest, Raise, NameDay, Number, Refused}
use Rattle.store.specs.State.{last_number, most_in_piece}
use Rattle.store.specs.Loops.{Each, Go}
use Rattle.dayfile.specs.Adding.{Misfits}
use Rattle.dayfile.specs.Entries.{Entry}
use Rattle.dayfile.specs.Form.{day_file}
use Rattle.dayfile.specs.Limits.{AreFiles, IsPath}
use Rattle.dayfile.specs.Paths.{IsNoPath}
use Rattle.days.specs.declared.done.Added.{Added as Count}
use Rattle.days.specs.declared.done.Done.{Done}
use Rattle.days.specs.declared.machine.Machine.{Machine}
use Rattle.days.specs.declared.making.Underway.{Underway}
use Rattle.days.specs.declared.done.Done.TheVariants.{Begun, Found, Written, Added, Raised, Named, BrokenOff}
use Rattle.days.specs.Asking.{Asked, NotOnList, in_place, on_list}
use Rattle.store.specs.Asking.{Doing}
use Rattle.days.specs.Machines.{Work, makes, new_day, with_file, with_number, work_of}

-- a request that is done; one that is refused, or fails
abbrev pub done : Request → Request × Answer
done q = (q, request.Done)

abbrev pub fails : Request → Refusal → Request × Answer
fails q r = (q, Refused r)

-- a piece is written, after its name was listed for the machine
abbrev pub enlist : ℕ → List ℕ → Request
enlist i p = Enlist (record { machine = i; name = digest_of p })

abbrev pub write : List ℕ → Request
write p = Write (digest_of p) p

-- a machine's day of this number is given its name: its file is to lie under it
abbrev pub name : ℕ → ℕ → Work → Request
name i k w = NameDay (record { machine = i; number = k }) (day_file (record { machine = i; number = k }) w.files)

-- a file in a day, by its path and its pieces: it has as many bytes as these together, and their names
abbrev pub entry : List ℕ → List (List ℕ) → Entry
entry path ps = record { path = path; length = length (concat ps); pieces = map digest_of ps }

-- the path of a file by its place in a day, in four decimal digits
abbrev pub place_path : ℕ → List ℕ
place_path k = (48 + k / 1000 % 10) ∷ (48 + k / 100 % 10) ∷ (48 + k / 10 % 10) ∷ (48 + k % 10) ∷ []

-- none of these pieces has more than so many bytes
abbrev pub HaveRoom : List (List ℕ) → ℕ → Type 0
HaveRoom ps most = (k : ℕ) → k < length ps → length (slice_index_or ps k []) ≤ most

-- why a file is not looked at: it is too long, its path is none, or there is no memory for its pieces
abbrev pub NoFile : List ℕ → List ℕ → Refusal → Type 0
NoFile path file r = NotCut (length file) r ⊎ IsNoPath path r

-- a step of a day that goes on
abbrev pub GoesOn : {S : Type 0} → (Work → S → Result Done Refusal → Work → S → Type 0) → Work → S → Result Done Refusal → Option Work → S → Type 0
GoesOn step w s a new t = (v : Work) × (new ≡ Some v) × step w s a v t

module _ {S : Type 0} (does : Doing S) (i : ℕ) where
  -- why a machine does not begin: it is not on the list, or else it makes a day
  abbrev pub NotBegun : Option Work → S → Refusal → S → Type 0
  NotBegun old s r t = NotOnList does i s r t ⊎ ((w : Work) × (old ≡ Some w) × (r ≡ MakesDay) × Asked does s (on_list i ∷ []) t)

  -- begin: it makes a day, of which nothing is seen to yet
  abbrev pub Begins : Option Work → S → Result Done Refusal → Option Work → S → Type 0
  Begins old s (Ok Begun) new t = (old ≡ None) × (new ≡ Some new_day) × Asked does s (on_list i ∷ []) t
  Begins old s (Err r) new t = (new ≡ old) × NotBegun old s r t
  Begins old s (Ok other) new t = ⊥

  -- why a machine does nothing for a day: it is not on the list, or else it makes none
  abbrev pub NoDay : Option Work → S → Refusal → S → Type 0
  NoDay old s r t = NotOnList does i s r t ⊎ ((old ≡ None) × (r ≡ MakesNone) × Asked does s (on_list i ∷ []) t)

  -- the number and the day of a machine on the list that makes one; or the machine as it was, and why there is no day
  abbrev pub IntoDay : Option Work → S → Result (ℕ × Underway) (Machine × Refusal) → S → Type 0
  IntoDay old s (Ok p) t = (p.0 ≡ i) × (old ≡ Some (work_of p.1)) × Asked does s (on_list i ∷ []) t
  IntoDay old s (Err p) t = (p.0.number ≡ i) × (makes p.0 ≡ old) × NoDay old s p.1 t

  -- a step for the day that a machine on the list makes
  abbrev pub ForDay : (Work → S → Result Done Refusal → Option Work → S → Type 0) → Option Work → S → Result Done Refusal → Option Work → S → Type 0
  ForDay step old s a new t =
      ((r : Refusal) × (a ≡ Err r) × (new ≡ old) × NoDay old s r t)
      ⊎ ((w : Work) × (old ≡ Some w) × (m : S) × Asked does s (on_list i ∷ []) m × step w m a new t)

  -- why a piece is not written that is not found: its name is not listed, or it is not written then
  abbrev pub NotWritten : List ℕ → S → Refusal → S → Type 0
  NotWritten p s r t =
      (b : Option (List ℕ)) × (b ≢ Some p)
      × (Asked does s (in_place (digest_of p) b ∷ fails (enlist i p) r ∷ []) t ⊎ Asked does s (in_place (digest_of p) b ∷ done (enlist i p) ∷ fails (write p) r ∷ []) t)

  -- a piece is seen to: its very bytes are found in its place, or else it is written there; whether it was written
  abbrev pub SeesTo : List ℕ → S → Result Bool Refusal → S → Type 0
  SeesTo p s (Ok false) t = Asked does s (in_place (digest_of p) (Some p) ∷ []) t
  SeesTo p s (Ok true) t = (b : Option (List ℕ)) × (b ≢ Some p) × Asked does s (in_place (digest_of p) b ∷ done (enlist i p) ∷ done (write p) ∷ []) t
  SeesTo p s (Err r) t = Asked does s (fails (Read Place (digest_of p)) r ∷ []) t ⊎ NotWritten p s r t

  -- so, and how many were written is counted
  abbrev pub SeesPiece : List ℕ → Go S ℕ
  SeesPiece p s u (Ok x) t v = (b : Bool) × SeesTo p s (Ok b) t × (v ≡ cond b (u + 1) u)
  SeesPiece p s u (Err r) t v = SeesTo p s (Err r) t

  -- so is each piece of a file, in their order
  abbrev pub SeesAll : List (List ℕ) → Go S ℕ
  SeesAll ps = Each [] SeesPiece ps

  -- a piece that is to be seen to is looked for: its very bytes are found in its place, or else its name is listed; or neither
  abbrev pub ListsAbsent : List ℕ → Go S (Unit {0})
  ListsAbsent p s u (Ok x) t v = Asked does s (in_place (digest_of p) (Some p) ∷ []) t ⊎ ((b : Option (List ℕ)) × (b ≢ Some p) × Asked does s (in_place (digest_of p) b ∷ done (enlist i p) ∷ []) t)
  ListsAbsent p s u (Err r) t v = Asked does s (fails (Read Place (digest_of p)) r ∷ []) t ⊎ ((b : Option (List ℕ)) × (b ≢ Some p) × Asked does s (in_place (digest_of p) b ∷ fails (enlist i p) r ∷ []) t)

  -- so is each piece of a file, in their order
  abbrev pub ListsAll : List (List ℕ) → Go S (Unit {0})
  ListsAll ps = Each [] ListsAbsent ps

  -- First the names of all pieces of a file that are not there are listed, and then each is seen to, and how many were written is counted; or one is not listed, or not seen to.
  unfoldable pub SeesFile : List (List ℕ) → S → Result (Unit {0}) Refusal → S → ℕ → Type 0
  SeesFile ps s (Ok x) t n = (m : S) × ListsAll ps s tt (Ok tt) m tt × SeesAll ps m 0 (Ok tt) t n
  SeesFile ps s (Err r) t n = ListsAll ps s tt (Err r) t tt ⊎ ((m : S) × ListsAll ps s tt (Ok tt) m tt × SeesAll ps m 0 (Err r) t n)

  -- a file may be added: it may follow the others, the number of the day is not raised, and nothing is seen to yet for the next file
  abbrev pub MayAdd : Entry → Work → Type 0
  MayAdd e w = AreFiles (w.files ++ e ∷ []) × (w.number ≡ None) × (w.seen ≡ [])

  -- why a file is not added: there is no memory; it may not follow the others; the number of the day is raised; or a piece is not listed or not seen to, or there is no memory to keep the file then
  abbrev pub NotAdded : List ℕ → List (List ℕ) → Work → S → Refusal → S → Type 0
  NotAdded path ps w s r t =
      ((r ≡ NoMemory) × (t ≡ s))
      ⊎ ((Misfits w.files (entry path ps) r × (t ≡ s))
      ⊎ (((k : ℕ) × (w.number ≡ Some k) × AreFiles (w.files ++ entry path ps ∷ []) × (r ≡ HasNumber) × (t ≡ s))
      ⊎ (MayAdd (entry path ps) w × (n : ℕ) × (SeesFile ps s (Err r) t n ⊎ (SeesFile ps s (Ok tt) t n × (r ≡ NoMemory))))))

  -- a file of these pieces is added to a day, once each of them is seen to
  abbrev pub DayAdds : List ℕ → List (List ℕ) → Work → S → Result Count Refusal → Work → S → Type 0
  DayAdds path ps w s (Ok a) v t = MayAdd (entry path ps) w × SeesFile ps s (Ok tt) t a.written × (a.pieces ≡ length ps) × (v ≡ with_file (entry path ps) w)
  DayAdds path ps w s (Err r) v t = (v ≡ w) × NotAdded path ps w s r t

  -- so is a whole file, cut into its pieces
  abbrev pub AddsCut : List ℕ → List ℕ → Work → S → Result Done Refusal → Work → S → Type 0
  AddsCut path file w s (Ok (Added a)) v t = DayAdds path (pieces file) w s (Ok a) v t
  AddsCut path file w s (Err r) v t = DayAdds path (pieces file) w s (Err r) v t
  AddsCut path file w s (Ok other) v t = ⊥

  -- and a file that is one piece, under its place in the day
  abbrev pub DaySees : List ℕ → Work → S → Result Done Refusal → Work → S → Type 0
  DaySees p w s (Ok (Found n)) v t = (n ≡ digest_of p) × (a : Count) × (a.written ≡ 0) × DayAdds (place_path (length w.files + 1)) (p ∷ []) w s (Ok a) v t
  DaySees p w s (Ok (Written n)) v t = (n ≡ digest_of p) × (a : Count) × (a.written ≢ 0) × DayAdds (place_path (length w.files + 1)) (p ∷ []) w s (Ok a) v t
  DaySees p w s (Err r) v t = DayAdds (place_path (length w.files + 1)) (p ∷ []) w s (Err r) v t
  DaySees p w s (Ok other) v t = ⊥

  -- why the number of a day is not raised: it is; or else the highest is not told, it is the last one, or the next one is not set
  abbrev pub NotRaised : Work → S → Refusal → S → Type 0
  NotRaised w s r t =
      ((k : ℕ) × (w.number ≡ Some k) × (r ≡ HasNumber) × (t ≡ s))
      ⊎ ((w.number ≡ None)
      × (Asked does s (fails (Highest i) r ∷ []) t
      ⊎ (((r ≡ LastNumber) × Asked does s ((Highest i, Number last_number) ∷ []) t)
      ⊎ ((h : ℕ) × (h < last_number) × Asked does s ((Highest i, Number h) ∷ fails (Raise i (h + 1)) r ∷ []) t))))

  -- the day's number is one above the machine's highest, which is raised to it
  abbrev pub DayRaises : Work → S → Result Done Refusal → Work → S → Type 0
  DayRaises w s (Ok (Raised k)) v t =
      (w.number ≡ None) × (v ≡ with_number k w)
      × (h : ℕ) × (h < last_number) × (k ≡ h + 1) × Asked does s ((Highest i, Number h) ∷ done (Raise i k) ∷ []) t
  DayRaises w s (Err r) v t = (v ≡ w) × NotRaised w s r t
  DayRaises w s (Ok other) v t = ⊥

  -- why a day is not named: its number is not raised; or there is no memory for its file, or the store does not do it
  abbrev pub NotNamed : Work → S → Refusal → S → Type 0
  NotNamed w s r t =
      ((w.number ≡ None) × (r ≡ HasNoNumber) × (t ≡ s))
      ⊎ ((k : ℕ) × (w.number ≡ Some k) × (((r ≡ NoMemory) × (t ≡ s)) ⊎ Asked does s (fails (name i k w) r ∷ []) t))

  -- the day has its name, with the files that were added
  abbrev pub DayNamed : Work → S → Result ℕ Refusal → S → Type 0
  DayNamed w s (Ok k) t = (w.number ≡ Some k) × Asked does s (done (name i k w) ∷ []) t
  DayNamed w s (Err r) t = NotNamed w s r t

  -- of a day that has its name, and is no longer made; or keeps on being made where that is refused
  abbrev pub Ends : Work → S → Result Done Refusal → Option Work → S → Type 0
  Ends w s (Ok (Named k)) new t = (new ≡ None) × DayNamed w s (Ok k) t
  Ends w s (Err r) new t = (new ≡ Some w) × DayNamed w s (Err r) t
  Ends w s (Ok other) new t = ⊥

  -- see to a piece, as a file of its own
  abbrev pub Sees : List ℕ → Option Work → S → Result Done Refusal → Option Work → S → Type 0
  Sees p old s a new t =
      ((p ≡ []) × (a ≡ Err PieceEmpty) × (new ≡ old) × (t ≡ s))
      ⊎ (((most_in_piece < length p) × (a ≡ Err PieceTooLong) × (new ≡ old) × (t ≡ s))
      ⊎ ((1 ≤ length p) × (length p ≤ most_in_piece) × ForDay (GoesOn (DaySees p)) old s a new t))

  -- add a file
  abbrev pub Adds : List ℕ → List ℕ → Option Work → S → Result Done Refusal → Option Work → S → Type 0
  Adds path file old s a new t =
      ((r : Refusal) × (a ≡ Err r) × NoFile path file r × (new ≡ old) × (t ≡ s)) ⊎ ((length file ≤ most_in_file) × IsPath path × ForDay (GoesOn (AddsCut path file)) old s a new t)

  -- raise
  abbrev pub Raises : Option Work → S → Result Done Refusal → Option Work → S → Type 0
  Raises old s a new t = ForDay (GoesOn DayRaises) old s a new t

  -- name: the machine makes no day then
  abbrev pub Names : Option Work → S → Result Done Refusal → Option Work → S → Type 0
  Names old s a new t = ForDay Ends old s a new t

  -- break off: the machine makes no day then
  abbrev pub Breaks : Option Work → S → Result Done Refusal → Option Work → S → Type 0
  Breaks old s a new t = ForDay (λ w m b n u. (b ≡ Ok BrokenOff) × (n ≡ None) × (u ≡ m)) old s a new t
