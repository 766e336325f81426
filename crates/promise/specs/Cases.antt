-- Worked cases: steps that are played one after the other from the beginning, and what they must show.
-- Assumes nothing.
use Rattle.std.specs.Prelude.{◌≡◌, ℕ, List, [], ◌∷◌, ◌++◌, ◌≤◌, codes, length, map, replicate, Some, None}
use Rattle.std.specs.List.{All}
use Rattle.cutting.specs.Rule.{pieces}
use Rattle.digest.specs.declared.value.Digest.{Digest}
use Rattle.digest.specs.Digests.{digest_of}
use Rattle.store.specs.declared.day.DayName.{DayName}
use Rattle.store.specs.State.{is_in, most_in_piece}
use Rattle.dayfile.specs.Entries.{Entry}
use Rattle.dayfile.specs.Stored.{HasFiles}
use Rattle.days.specs.System as machines
use Rattle.sweeper.specs.Sweepers.{ends, puts, rests}
use Rattle.sweeper.specs.System as sweeping
use Rattle.promise.specs.System.{Step, World, by_machine, by_sweeper, parts, start}

-- A line of a script: what kind of step it is, and of what. The words are those of the script of `rehearse`, with these differences: there a machine finds a piece, or lists its name and writes it, and adds it to its day as a file, by one line, `see`; the sweeper lists a name and puts the piece aside by one line, `aside`; it puts back and throws away by `next`, and rests as soon as nothing is left, without a line.
pub data Line : Type 0 where
  -- machine i begins a day
  begin : (i : ℕ) → Line
  -- it sees to the piece of these bytes: it finds it; or lists its name, if it has not, and writes it
  find : (i : ℕ) → (p : List ℕ) → Line
  list : (i : ℕ) → (n : Digest) → Line
  write : (i : ℕ) → (p : List ℕ) → Line
  -- it adds a file to its day; or does not, and forgets what it has seen to for it
  add : (i : ℕ) → (e : Entry) → Line
  forget : (i : ℕ) → Line
  -- it raises its number; names its day; breaks it off, or stops and comes up again
  raise : (i : ℕ) → Line
  name : (i : ℕ) → Line
  break : (i : ℕ) → Line
  -- it is gone for good
  part : (i : ℕ) → Line
  -- a day is let go
  go : (day : DayName) → Line
  -- the sweeper looks
  look : Line
  -- it lists a name, if it has not, and puts the piece aside
  list_own : (n : Digest) → Line
  aside : (n : Digest) → Line
  -- it notes; and decides, after it waited or after a stop
  note : Line
  decide : Line
  -- it puts back; throws away; and rests
  back : (n : Digest) → Line
  away : (n : Digest) → Line
  rest : Line
  -- it stops, and comes up again
  stop : Line

-- the line of each step: of a machine, of the sweeper, and of any
abbrev pub machine_line : {v w : machines.World} → machines.Step v w → Line
machine_line (machines.begins w i o e) = begin i
machine_line (machines.finds w i d p m l e) = find i p
machine_line (machines.lists w i d n m o l) = list i n
machine_line (machines.writes w i d p m l o) = write i p
machine_line (machines.adds w i d e m s f) = add i e
machine_line (machines.forgets w i d m) = forget i
machine_line (machines.raises w i d m l) = raise i
machine_line (machines.names w i d k o e n f) = name i
machine_line (machines.breaks w i) = break i
machine_line (machines.lets_go w day e) = go day

abbrev pub sweeper_line : {v w : sweeping.World} → sweeping.Step v w → Line
sweeper_line (sweeping.looks w left e l) = look
sweeper_line (sweeping.lists w n left e o l) = list_own n
sweeper_line (sweeping.puts_aside w n left e o) = aside n
sweeper_line (sweeping.notes w h e f) = note
sweeper_line (sweeping.decides w h left others e f d) = decide
sweeper_line (sweeping.decides_anew w left others e d) = decide
sweeper_line (sweeping.puts_back w n left others e) = back n
sweeper_line (sweeping.throws w n left e) = away n
sweeper_line (sweeping.rests_again w e) = rest
sweeper_line (sweeping.stops w) = stop

abbrev pub line_of : {v w : World} → Step v w → Line
line_of (by_machine x k) = machine_line k
line_of (by_sweeper m k) = sweeper_line k
line_of (parts w i o) = part i

-- steps lead from one world to another, and these are their lines, in this order
pub data Follows : List Line → World → World → Type 0 where
  over : {w : World} → Follows [] w w
  first : {ls : List Line} {u v w : World} (k : Step u v) → Follows ls v w → Follows (line_of k ∷ ls) u w

-- what a world may show
pub data Fact : Type 0 where
  -- the piece of these bytes is in its place, the same bytes; or nothing is in its place
  in_place : (p : List ℕ) → Fact
  not_in_place : (p : List ℕ) → Fact
  -- it is aside; or nothing is aside at all
  is_aside : (p : List ℕ) → Fact
  nothing_aside : Fact
  -- there is this day, with just the files that are one of these pieces each
  has_day : (i k : ℕ) → (ps : List (List ℕ)) → Fact
  -- the sweeper rests; is to put just these pieces aside; is to put just these back, and to throw just those away
  resting : Fact
  to_put_aside : (ps : List (List ℕ)) → Fact
  to_end : (back away : List (List ℕ)) → Fact
  -- no step of this kind is possible
  refuses : Line → Fact

-- a file that is one piece
abbrev pub one_piece : List ℕ → Entry
one_piece p = record { path = codes "0001"; length = length p; pieces = digest_of p ∷ [] }

-- these are the names of these pieces, however often each
abbrev pub AreNames : List Digest → List (List ℕ) → Type 0
AreNames ns ps = (n : Digest) → is_in n ns ≡ is_in n (map digest_of ps)

-- what that means
abbrev pub Shows : World → Fact → Type 0
Shows w (in_place p) = w.store.place (digest_of p) ≡ Some p
Shows w (not_in_place p) = w.store.place (digest_of p) ≡ None
Shows w (is_aside p) = w.store.aside (digest_of p) ≡ Some p
Shows w nothing_aside = (n : Digest) → w.store.aside n ≡ None
Shows w (has_day i k ps) = HasFiles w.store (record { machine = i; number = k }) (map one_piece ps)
Shows w resting = w.sweeper ≡ rests
Shows w (to_put_aside ps) = (left : List Digest) × (w.sweeper ≡ puts left) × AreNames left ps
Shows w (to_end ps qs) = (left : List Digest) × (others : List Digest) × (w.sweeper ≡ ends left others) × (AreNames left ps × AreNames others qs)
Shows w (refuses l) = (v : World) (k : Step w v) → line_of k ≡ l → ⊥

-- a part of a case: these lines are played; or this is shown then
pub data Part : Type 0 where
  plays : List Line → Part
  shows : Fact → Part

-- all its lines
abbrev pub lines : List Part → List Line
lines [] = []
lines (plays ls ∷ others) = ls ++ lines others
lines (shows f ∷ others) = lines others

-- whatever worlds the parts lead to from this one, they show what they are to show
abbrev pub Goes : List Part → World → Type 0
Goes [] v = Unit {0}
Goes (plays ls ∷ others) v = (w : World) → Follows ls v w → Goes others w
Goes (shows f ∷ others) v = Shows v f × Goes others v

-- a case: what is played from the beginning, with the machines 0 and 1 on the list; or a file, and how many bytes each of its pieces has
pub data Case : Type 0 where
  played : List Part → Case
  cut : (file : List ℕ) → (lengths : List ℕ) → Case

-- It holds: its lines can be played, to the last; and whatever world they lead to shows what it is to show, at each point.
abbrev pub Holds : Case → Type 0
Holds (played ps) = ((w : World) × Follows (lines ps) (start (0 ∷ 1 ∷ [])) w) × Goes ps (start (0 ∷ 1 ∷ []))
Holds (cut file lengths) = map length (pieces file) ≡ lengths

-- A machine finishes the day that it makes; makes one of no pieces; makes its first one, of a new piece, and that is let go.
abbrev pub finishes : ℕ → List Line
finishes i = raise i ∷ name i ∷ []

abbrev pub empty_day : ℕ → List Line
empty_day i = begin i ∷ finishes i

abbrev pub let_go : ℕ → List ℕ → List Line
let_go i p = begin i ∷ list i (digest_of p) ∷ write i p ∷ add i (one_piece p) ∷ finishes i ++ go (record { machine = i; number = 1 }) ∷ []

-- The sweeper looks, finds that just this piece is to be put aside, and does it.
abbrev pub goes_aside : List ℕ → List Part
goes_aside p = plays (look ∷ []) ∷ shows (to_put_aside (p ∷ [])) ∷ plays (list_own (digest_of p) ∷ aside (digest_of p) ∷ []) ∷ shows (is_aside p) ∷ shows (not_in_place p) ∷ []

-- It decides that the piece goes back, and puts it back; or that it goes away, and throws it away.
abbrev pub goes_back : List ℕ → List Part
goes_back p = plays (decide ∷ []) ∷ shows (to_end (p ∷ []) []) ∷ plays (back (digest_of p) ∷ rest ∷ []) ∷ shows (in_place p) ∷ shows nothing_aside ∷ shows resting ∷ []

abbrev pub goes_away : List ℕ → List Part
goes_away p = plays (decide ∷ []) ∷ shows (to_end [] (p ∷ [])) ∷ plays (away (digest_of p) ∷ rest ∷ []) ∷ shows (not_in_place p) ∷ shows nothing_aside ∷ shows resting ∷ []

-- THE CASES, for a piece of any bytes

-- A. Day 1 of machine 0 has the piece, and is let go. The piece is put aside. Machine 0 begins a day with it: it is not in its place, and is written. It goes back, the same bytes.
abbrev pub case_a : List ℕ → List Part
case_a p =
    plays (let_go 0 p) ∷ goes_aside p
    ++ plays (note ∷ begin 0 ∷ []) ∷ shows (refuses (find 0 p))
    ∷ plays (write 0 p ∷ add 0 (one_piece p) ∷ finishes 0) ∷ shows (has_day 0 2 (p ∷ [])) ∷ shows (in_place p) ∷ shows (is_aside p) ∷ shows (refuses decide)
    ∷ plays (empty_day 1) ∷ goes_back p

-- Before B to E: a day of machine 1 has the piece, and is let go. Machine 0 begins a day and finds the piece in its place. Then it is put aside.
abbrev pub found_first : List ℕ → List Part
found_first p = plays (let_go 1 p ++ begin 0 ∷ []) ∷ shows (in_place p) ∷ plays (find 0 p ∷ add 0 (one_piece p) ∷ []) ∷ goes_aside p

-- B. Machine 0 finishes its day: the piece goes back.
abbrev pub case_b : List ℕ → List Part
case_b p =
    found_first p
    ++ plays (note ∷ raise 0 ∷ []) ∷ shows (refuses decide)
    ∷ plays (name 0 ∷ []) ∷ shows (has_day 0 1 (p ∷ [])) ∷ shows (refuses decide)
    ∷ plays (empty_day 1) ∷ goes_back p

-- The same where the number of its day is raised before the sweeper notes it: the sweeper waits for the next day, and looks at this one, too.
abbrev pub case_b_raised : List ℕ → List Part
case_b_raised p =
    found_first p
    ++ plays (raise 0 ∷ note ∷ name 0 ∷ empty_day 1) ∷ shows (has_day 0 1 (p ∷ [])) ∷ shows (refuses decide)
    ∷ plays (empty_day 0) ∷ goes_back p

-- C. Machine 0 breaks off, begins anew and finishes without the piece: it goes away.
abbrev pub case_c : List ℕ → List Part
case_c p =
    found_first p
    ++ plays (note ∷ break 0 ∷ empty_day 1) ∷ shows (refuses decide)
    ∷ plays (empty_day 0) ∷ shows (has_day 0 1 []) ∷ goes_away p

-- D. Machine 0 finishes, and machine 1 doesn't: it makes no day; makes one; raises its number; breaks it off; finishes one that is let go. The sweeper can't decide before machine 1 has a day.
abbrev pub case_d : List ℕ → List Part
case_d p =
    found_first p
    ++ plays (note ∷ finishes 0) ∷ shows (refuses decide)
    ∷ plays (begin 1 ∷ []) ∷ shows (refuses decide)
    ∷ plays (raise 1 ∷ []) ∷ shows (refuses decide)
    ∷ plays (break 1 ∷ []) ∷ shows (refuses decide)
    ∷ plays (empty_day 1 ++ go (record { machine = 1; number = 3 }) ∷ []) ∷ shows (refuses decide)
    ∷ plays (empty_day 1) ∷ goes_back p

-- E. The sweeper stops before it notes, and machine 0 finishes. The next look has nothing to put aside: the day's piece is aside. It goes back when the sweeper decides.
abbrev pub case_e : List ℕ → List Part
case_e p =
    found_first p
    ++ plays (stop ∷ finishes 0) ∷ shows (has_day 0 1 (p ∷ [])) ∷ shows (is_aside p) ∷ shows (not_in_place p) ∷ shows resting
    ∷ plays (look ∷ []) ∷ shows (to_put_aside [])
    ∷ plays (note ∷ empty_day 0 ++ empty_day 1) ∷ goes_back p

-- F. A file of 5,000 zeros has pieces of 2,048, 2,048 and 904 bytes.
abbrev pub case_f : Case
case_f = cut (replicate 5000 0) (2048 ∷ 2048 ∷ 904 ∷ [])

-- THE TABLE, and that all of it holds, for each piece
abbrev pub cases : List ℕ → List Case
cases p =
    played (case_a p) ∷ played (case_b p) ∷ played (case_b_raised p) ∷ played (case_c p) ∷ played (case_d p) ∷ played (case_e p) ∷ case_f ∷ []

abbrev pub Cases : Type 0
Cases = (p : List ℕ) → 1 ≤ length p → length p ≤ most_in_piece → All Holds (cases p)
