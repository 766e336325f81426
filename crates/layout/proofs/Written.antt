-- The list of machines that is written for a new store is read back.
-- Assumes nothing.
use Rattle.std.proofs.Common.{◌≡◌, ℕ, zero, suc, ◌+◌, ◌<◌, ◌/◌, ◌%◌, ltb, ◌≢◌, ◌==◌, Bool, true, false, not, cond, ◌&&◌, ◌||◌, List, [], ◌∷◌, ◌++◌, length, get_or, Ok, refl, sym, ap, subst, ◌∙◌, append_assoc, arith, inl, inr}
use Rattle.std.specs.Prelude.{decimal, AllPairs, nat_eq, nat_lt}
use Rattle.std.specs.List.{flat_map, list_any}
use Rattle.std.proofs.lemmas.Bool.Decides.{nat_tests}
use Rattle.std.proofs.lemmas.Bool.{cases_lt, le-ltb, lt-ltb}
use Rattle.std.proofs.lemmas.Fmt.{decimal_digit, decimal_step}
use Rattle.std.proofs.lemmas.List.{append-nil, length-append, get_or_append_left}
use Rattle.std.proofs.lemmas.List.Folds.{list_any_none}
use Rattle.script.specs.Lines.{first, rest, trimmed}
use Rattle.layout.specs.declared.line.Line as line
use Rattle.layout.specs.declared.line.Line.TheVariants.{Nothing, End, Machine, Other}
use Rattle.layout.specs.Lines.{line_of}
use Rattle.layout.specs.Machines.{AreMachines, Reading, comment, last_line, machines_in, machines_text, unread, whole, with_lines}
use Rattle.layout.proofs.LinesRead.{cut}

abbrev newline : ℕ → Bool
newline c = c == 10

-- a line is cut off
cut_line : (l text : List ℕ) → list_any newline l ≡ false → cut (l ++ 10 ∷ text) ≡ l ∷ cut text
cut_line [] text e = refl
cut_line (c ∷ l) text e = go (newline c) refl e (cut_line l text)
  where
    go : (b : Bool) → newline c ≡ b → (b || list_any newline l) ≡ false → (list_any newline l ≡ false → cut (l ++ 10 ∷ text) ≡ l ∷ cut text) → cut ((c ∷ l) ++ 10 ∷ text) ≡ (c ∷ l) ∷ cut text
    go true is h more = absurd cc
    go false is h more = rw (is, more h) refl

-- the lines of all machines, tried one after the other
is_machine : ℕ → line.Line → Bool
is_machine m (Machine n) = n == m
is_machine m _ = false

-- a number of one digit or two
spelled : ℕ → List ℕ
spelled m = cond (nat_lt m 10) ((48 + m) ∷ []) ((48 + m / 10) ∷ (48 + m % 10) ∷ [])

decimal_is : (m : ℕ) → m < 64 → decimal m ≡ spelled m
unfolding spelled
decimal_is m below =
    elim (cases_lt m 10) [
      | inl lt ↦ let is : ltb m 10 ≡ true = lt-ltb m 10 lt in decimal_digit m lt ∙ rw is refl
      | inr le ↦ let is : ltb m 10 ≡ false = le-ltb m 10 le in decimal_step m le (omega arith) ∙ ap (λ (d : List ℕ). d ++ (48 + m % 10) ∷ []) (decimal_digit (m / 10) (omega arith)) ∙ rw is refl
    ]

is_right : ℕ → Bool
is_right m = not (list_any newline (spelled m)) && is_machine m (line_of (spelled m))

all_below : (ℕ → Bool) → ℕ → Bool
all_below test zero = true
all_below test (suc k) = test k && all_below test k

both : (a b : Bool) → (a && b) ≡ true → (a ≡ true) × (b ≡ true)
both true true e = (refl, refl)
both true false e = absurd cc
both false b e = absurd cc

passes : (test : ℕ → Bool) (k m : ℕ) → all_below test k ≡ true → m < k → test m ≡ true
unfolding all_below
passes test zero m e below = absurd (omega arith)
passes test (suc k) m e below =
    let h = both (test k) (all_below test k) e in
    elim (cases_lt m k) [
      | inl lt ↦ passes test k m h.1 lt
      | inr le ↦ let same : m ≡ k = omega arith in rw same h.0
    ]

all_right : all_below is_right 64 ≡ true
unfolding all_below is_right is_machine spelled first rest trimmed
all_right = refl

machine_is : (m : ℕ) (l : line.Line) → is_machine m l ≡ true → l ≡ Machine m
unfolding is_machine
machine_is m (Machine n) e = let same : n ≡ m = grind (arith, nat_tests) in ap Machine same
machine_is m Nothing e = absurd cc
machine_is m End e = absurd cc
machine_is m Other e = absurd cc

machine_line_is : (m : ℕ) → m < 64 → (list_any newline (decimal m) ≡ false) × (line_of (decimal m) ≡ Machine m)
unfolding is_right
machine_line_is m below =
    let h = both (not (list_any newline (spelled m))) (is_machine m (line_of (spelled m))) (passes is_right 64 m all_right below) in
    rw (decimal_is m below) (no (list_any newline (spelled m)) h.0, machine_is m (line_of (spelled m)) h.1)
  where
    no : (b : Bool) → not b ≡ true → b ≡ false
    no true e = absurd cc
    no false e = refl

abbrev pub lines : List ℕ → List ℕ
lines ms = flat_map (λ m. decimal m ++ 10 ∷ []) ms

abbrev reading : List ℕ → Bool → Reading
reading ms ended = record { machines = ms; ended = ended }

at_end : (ms : List ℕ) (n : ℕ) → with_lines (reading ms false) n (cut last_line) ≡ Ok (reading ms true)
unfolding with_lines first rest trimmed
at_end ms n = refl

-- the machine behind those before it
at_middle : (done : List ℕ) (m : ℕ) (ms : List ℕ) (d : ℕ) → get_or (done ++ m ∷ ms) (length done) d ≡ m
at_middle [] m ms d = refl
at_middle (x ∷ done) m ms d = at_middle done m ms d

-- a machine is not among those before it
is_new : (done : List ℕ) (m : ℕ) (ms : List ℕ) → AllPairs (λ m n. m ≢ n) (done ++ m ∷ ms) → list_any (λ n. nat_eq n m) done ≡ false
is_new done m ms once =
    list_any_none (λ n. nat_eq n m) done
    (λ k d below.
    let other = once k (length done) d below (omega (arith, length-append done (m ∷ ms))) in
    let here : get_or (done ++ m ∷ ms) k d ≡ get_or done k d = get_or_append_left done (m ∷ ms) d k below in
    let there : get_or (done ++ m ∷ ms) (length done) d ≡ m = at_middle done m ms d in
    let no : get_or done k d ≢ m = rw (here, there) at other in
    grind (arith, nat_tests))

reads_on : (done ms : List ℕ) (n : ℕ) → AreMachines (done ++ ms) → with_lines (reading done false) n (cut (lines ms ++ last_line)) ≡ Ok (reading (done ++ ms) true)
unfolding with_lines
reads_on done [] n are = at_end done n ∙ ap (λ (ms : List ℕ). Ok (reading ms true)) (sym (append-nil done))
reads_on done (m ∷ ms) n are =
    let below : m < 64 = let each = are.each (length done) 0 (omega (arith, length-append done (m ∷ ms))) in rw at_middle at each in
    let h = machine_line_is m below in
    let text : lines (m ∷ ms) ++ last_line ≡ decimal m ++ 10 ∷ (lines ms ++ last_line) = simp append_assoc in
    let parts = ap cut text ∙ cut_line (decimal m) (lines ms ++ last_line) h.0 in
    let new : list_any (λ n. nat_eq n m) done ≡ false = is_new done m ms are.once in
    let same : (done ++ m ∷ []) ++ ms ≡ done ++ m ∷ ms = append_assoc done (m ∷ []) ms in
    let first : with_lines (reading done false) n (cut (lines (m ∷ ms) ++ last_line)) ≡ with_lines (reading (done ++ m ∷ []) false) (n + 1) (cut (lines ms ++ last_line)) = ap (with_lines (reading done false) n) parts ∙ rw (h.1, new) refl in
    first ∙ reads_on (done ++ m ∷ []) ms (n + 1) (subst AreMachines (sym same) are) ∙ ap (λ (ms : List ℕ). Ok (reading ms true)) same

-- the first line says nothing
from_comment : (text : List ℕ) → with_lines unread 0 (cut (comment ++ text)) ≡ with_lines unread 1 (cut text)
unfolding with_lines first rest trimmed
from_comment text = refl

pub reads_back : (ms : List ℕ) → AreMachines ms → machines_in (machines_text ms) ≡ Ok ms
reads_back ms are = ap whole (from_comment (lines ms ++ last_line) ∙ reads_on [] ms 1 are)
