-- What is gathered of all pieces that days have, and why it is not.
-- Assumes nothing.
use Rattle.std.proofs.Common.{◌≡◌, ℕ, ◌+◌, ◌-◌, ◌<◌, ◌⊎◌, inl, inr, ◌∙◌, true, Decides, is_some, List, [], length, Some, None, Ok, Err, ap, sym, subst, refl, arith, slice_index_or}
use Rattle.cutting.specs.declared.refusal.Refusal.{Refusal}
use Rattle.cutting.specs.declared.refusal.Refusal.TheVariants.{BadDay, NoMemory}
use Rattle.digest.specs.declared.value.Digest.{Digest}
use Rattle.store.specs.declared.day.DayName.{DayName}
use Rattle.store.specs.Asking.{Doing, IsExact}
use Rattle.store.specs.State.{State, is_in, most_machines}
use Rattle.dayfile.specs.Entries.{Entry, names_of}
use Rattle.dayfile.specs.Form.{day_file}
use Rattle.dayfile.specs.Reads.{NotRead}
use Rattle.dayfile.specs.Stored.{HasFiles, IsDayOf}
use Rattle.sweeper.specs.Loops.{Each, Go, Loop, with}
use Rattle.sweeper.specs.Looking.{AddsDay, AddsDayOf, AddsDays, AddsPiece, GathersUsed}
use Rattle.sweeper.specs.Pieces.{FoundHas, IsFound, IsThere, IsWhole}
use Rattle.sweeper.proofs.Absurd.{in_none, none_is_some}
use Rattle.sweeper.proofs.Adding.{adds_like, adds_more, adds_none, adds_zero, all_more, is_among, is_one_among}
use Rattle.sweeper.proofs.Checked.{AddsThere, Misses, adds_piece}
use Rattle.dayfile.proofs.OneForm.{one_form}
use Rattle.sweeper.proofs.Reading.{Below, Reads, loop_reads, reads_like}
use Rattle.sweeper.proofs.Told.{IsNoMemory, not_told, told_day, told_highest}

-- what lies under the name of a day is of its form
abbrev pub IsFormed : State → DayName → Type 0
IsFormed z d = (b : List ℕ) → z.days d ≡ Some b → (es : List Entry) × IsDayOf d es b

-- a day has this piece
abbrev pub DayHas : State → DayName → Digest → Type 0
DayHas z d q = (es : List Entry) × HasFiles z d es × (is_in q (names_of es) ≡ true)

-- all names of P were added, and no others, and they were there; and forms were seen, so that F holds
abbrev pub AddsWhole : State → (Digest → Type 0) → Type 0 → List Digest → List Digest → Type 0
AddsWhole z P F u v = AddsThere z P u v × F

-- why they are not: memory is wanting; or F does not hold, or one of P is not there
abbrev pub Lacks : State → (Digest → Type 0) → Type 0 → Refusal → Type 0
Lacks z P F r = IsNoMemory r ⊎ ((r ≡ BadDay) × (F → ((q : Digest) → P q → IsThere z q) → ⊥))

-- the same, in other words
lacks_like : (z : State) (P Q : Digest → Type 0) (F G : Type 0) (r : Refusal) → ((q : Digest) → P q → Q q) → (G → F) → Lacks z P F r → Lacks z Q G r
lacks_like z P Q F G r to forms (inl e) = inl e
lacks_like z P Q F G r to forms (inr (e, n)) = inr (e, λ g t. n (forms g) (λ q p. t q (to q p)))

module _ {S : Type 0} (does : Doing S) (holds : S → State) (exact : IsExact holds does) (z : State) where
  -- what adds just the names of P, and checks them, and sees that F holds
  abbrev Gathers : Go S (List Digest) → (Digest → Type 0) → Type 0 → Type 0
  Gathers go P F = Reads holds z go (AddsWhole z P F) (Lacks z P F)

  -- a loop of such, with other words for all that it adds and sees
  loops : (go : ℕ → Go S (List Digest)) (P : ℕ → Digest → Type 0) (F : ℕ → Type 0) (Q : Digest → Type 0) (G : Type 0) (n : ℕ)
      → ((q : Digest) → Below n (λ k. P k q) → Q q) → ((q : Digest) → Q q → Below n (λ k. P k q))
      → (((k : ℕ) → k < n → F k) → G) → (G → (k : ℕ) → k < n → F k)
      → ((k : ℕ) → k < n → Gathers (go k) (P k) (F k)) → Gathers (Loop go n) Q G
  loops go P F Q G n to from sees forms each =
      reads_like (λ u v a. ((adds_like _ Q u v to from a.0.0, a.0.1), sees a.1)) (λ r (k, l, x). lacks_like z (P k) Q (F k) G r (λ q p. to q (k, l, p)) (λ g. forms g k l) x)
      (loop_reads holds z go (λ k. AddsWhole z (P k) (F k)) (λ k. Lacks z (P k) (F k)) (λ k. AddsWhole z (λ q. Below k (λ j. P j q)) ((j : ℕ) → j < k → F j))
      (λ u. ((adds_zero P u, λ a. a), λ j l. absurd (omega arith))) (λ k u w v a b. ((adds_more P k u w v a.0.0 b.0.0, λ x. b.0.1 (a.0.1 x)), all_more F k a.1 b.1)) n each)

  -- all pieces of a list
  adds_pieces : (ns : List Digest) → Gathers (Each (AddsPiece does) ns) (λ q. is_in q ns ≡ true) (Unit {0})
  adds_pieces ns =
      loops (with (AddsPiece does) ns) (λ k q. q ≡ slice_index_or ns k (record { bytes = [] })) (λ k. Unit {0}) (λ q. is_in q ns ≡ true) (Unit {0}) (length ns)
      (λ q. is_one_among q ns) (λ q. is_among q ns) (λ f. tt) (λ f k l. tt) (λ k l. reads_like (λ u v a. (a, tt)) (misses _) (adds_piece does holds exact z _))
    where
      misses : (n : Digest) (r : Refusal) → Misses z n r → Lacks z (λ q. q ≡ n) (Unit {0}) r
      misses n r (inl e) = inl e
      misses n r (inr (e, x)) = inr (e, λ f t. x (t n refl))

  -- of a day
  adds_day : (d : DayName) → Gathers (AddsDay does d) (DayHas z d) (IsFormed z d)
  adds_day d = record { done = done; stopped = stopped }
    where
      -- nothing lies there, or just these bytes, of just these files
      none : {A : Type 0} (b : List ℕ) → z.days d ≡ None → z.days d ≡ Some b → A
      none b e f = none_is_some (z.days d) e (ap is_some f)

      same : (b c : List ℕ) → z.days d ≡ Some b → z.days d ≡ Some c → c ≡ b
      same b c e f =
          let g : Some b ≡ Some c = sym e ∙ f in
          cc

      only : (es : List Entry) → HasFiles z d es → (q : Digest) → DayHas z d q → is_in q (names_of es) ≡ true
      only es (a, e) q (fs, (c, f), x) = subst (λ gs. is_in q (names_of gs) ≡ true) (one_form d fs es c a (same (day_file d es) (day_file d fs) e f)) x

      -- so it is of its form, or it is not
      formed : (b : List ℕ) (es : List Entry) → z.days d ≡ Some b → IsDayOf d es b → IsFormed z d
      formed b es e (a, f) c g = (es, (a, same b c e g ∙ f))

      not_formed : (b : List ℕ) (r : Refusal) → z.days d ≡ Some b → NotRead d b r → Lacks z (DayHas z d) (IsFormed z d) r
      not_formed b NoMemory e n = inl refl
      not_formed b BadDay e n = inr (refl, λ f t. let x = f b e in n x.0 x.1)
      not_formed b other e n = absurd n

      done : (s t : S) (u v : List Digest) → holds s ≡ z → AddsDay does d s u (Ok tt) t v → (holds t ≡ z) × AddsWhole z (DayHas z d) (IsFormed z d) u v
      done s t u v h (inl (x, f)) =
          let a = told_day does holds exact z s t h d None x in
          (a.0, (subst (AddsThere z (DayHas z d) u) (sym f) (adds_none _ u (λ q (es, (c, e), i). none _ a.1 e), λ k. k), λ b. none b a.1))
      done s t u v h (inr (b, es, m, x, (c, e), y)) =
          let a = told_day does holds exact z s m h d (Some b) x in
          let k = (adds_pieces (names_of es)).done m t u v a.0 y in
          let there : HasFiles z d es = (c, a.1 ∙ ap Some e) in
          (k.0, ((adds_like _ _ u v (λ q i. (es, there, i)) (only es there) k.1.0.0, k.1.0.1), formed b es a.1 (c, e)))

      stopped : (s t : S) (u v : List Digest) (r : Refusal) → holds s ≡ z → AddsDay does d s u (Err r) t v → (holds t ≡ z) × Lacks z (DayHas z d) (IsFormed z d) r
      stopped s t u v r h (inl x) = let a = not_told does holds exact z s t h _ r refl x in (a.0, inl a.1)
      stopped s t u v r h (inr (inl (b, x, n))) = let a = told_day does holds exact z s t h d (Some b) x in (a.0, not_formed b r a.1 n)
      stopped s t u v r h (inr (inr (b, es, m, x, (c, e), y))) =
          let a = told_day does holds exact z s m h d (Some b) x in
          let k = (adds_pieces (names_of es)).stopped m t u v r a.0 y in
          (k.0, lacks_like z _ _ _ _ r (λ q i. (es, (c, a.1 ∙ ap Some e), i)) (λ f. tt) k.1)

  -- what a machine's days have, and that they are of their forms
  abbrev MachineHas : ℕ → Digest → Type 0
  MachineHas i q = Below (z.highest i) (λ k. DayHas z (record { machine = i; number = k + 1 }) q)

  abbrev MachineFormed : ℕ → Type 0
  MachineFormed i = (k : ℕ) → k < z.highest i → IsFormed z (record { machine = i; number = k + 1 })

  -- so of all of them
  adds_days : (i : ℕ) → Gathers (AddsDays does i) (MachineHas i) (MachineFormed i)
  adds_days i =
      record {
        done = λ s t u v h (n, m, x, y). let a = told_highest does holds exact z s m h i n x in (each n a.1).done m t u v a.0 y;
        stopped = stopped;
      }
    where
      each : (n : ℕ) → z.highest i ≡ n → Gathers (Loop (AddsDayOf does i) n) (MachineHas i) (MachineFormed i)
      each n e =
          subst (λ j. Gathers (Loop (AddsDayOf does i) j) (MachineHas i) (MachineFormed i)) e
          (loops (AddsDayOf does i) (λ k. DayHas z (record { machine = i; number = k + 1 })) (λ k. IsFormed z (record { machine = i; number = k + 1 })) (MachineHas i) (MachineFormed i) (z.highest i)
          (λ q x. x) (λ q x. x) (λ f. f) (λ f. f) (λ k l. adds_day _))

      stopped : (s t : S) (u v : List Digest) (r : Refusal) → holds s ≡ z → AddsDays does i s u (Err r) t v → (holds t ≡ z) × Lacks z (MachineHas i) (MachineFormed i) r
      stopped s t u v r h (inl x) = let a = not_told does holds exact z s t h _ r refl x in (a.0, inl a.1)
      stopped s t u v r h (inr (n, m, x, y)) = let a = told_highest does holds exact z s m h i n x in (each n a.1).stopped m t u v r a.0 y

  -- what some machine's have is what days have that are found
  found : (q : Digest) → Below most_machines (λ i. MachineHas i q) → FoundHas z q
  found q (i, l, (k, below, (es, e, x))) =
      record {
        day = record { machine = i; number = k + 1 };
        files = es;
        found = record { machine = l; first = omega arith; last = omega arith };
        is_there = e;
        has = x;
      }

  finds : (q : Digest) → FoundHas z q → Below most_machines (λ i. MachineHas i q)
  finds q f =
      let first = f.found.first in
      let last = f.found.last in
      let e : f.day.number ≡ (f.day.number - 1) + 1 = omega arith in
      (f.day.machine, f.found.machine, (f.day.number - 1, omega arith, subst (λ k. DayHas z (record { machine = f.day.machine; number = k }) q) e (f.files, f.is_there, f.has)))

  -- all days that are found are of their forms
  abbrev AllFormed : Type 0
  AllFormed = (d : DayName) → IsFound z d → IsFormed z d

  sees : ((i : ℕ) → i < most_machines → MachineFormed i) → AllFormed
  sees x d f =
      let first = f.first in
      let last = f.last in
      let e : (d.number - 1) + 1 ≡ d.number = omega arith in
      subst (λ k. IsFormed z (record { machine = d.machine; number = k })) e (x d.machine f.machine (d.number - 1) (omega arith))

  forms : AllFormed → (i : ℕ) → i < most_machines → MachineFormed i
  forms x i l k below = x _ (record { machine = l; first = omega arith; last = omega arith })

  -- of all days that are found
  gathers : Gathers (GathersUsed does) (FoundHas z) AllFormed
  gathers = loops (AddsDays does) MachineHas MachineFormed (FoundHas z) AllFormed most_machines found finds sees forms (λ i l. adds_days i)

-- what is known of the names that were gathered: a name is among them just if a day that is found has it, and the days are whole
pub record IsUsed (z : State) (used : List Digest) : Type 0 where
  pub decides : (q : Digest) → Decides (is_in q used) (FoundHas z q)
  pub whole : IsWhole z

module _ {S : Type 0} (does : Doing S) (holds : S → State) (exact : IsExact holds does) where
  -- what was gathered
  pub gathers_used : (s t : S) (used : List Digest) → GathersUsed does s [] (Ok tt) t used → (holds t ≡ holds s) × IsUsed (holds s) used
  gathers_used s t used x =
      let a = (gathers does holds exact (holds s)).done s t [] used refl x in
      let b = a.1.0 in
      (a.0, record { decides = λ q. (λ i. only q (b.0.only q i), b.0.all q); whole = record { forms = λ d c f. a.1.1 d f c; pieces = λ q f. b.1 (λ p. in_none p) q (b.0.all q f) } })
    where
      only : (q : Digest) → (is_in q [] ≡ true) ⊎ FoundHas (holds s) q → FoundHas (holds s) q
      only q (inl e) = in_none q e
      only q (inr f) = f

  -- it is refused by a number only where the days are not whole
  pub gathers_not : (s t : S) (v : List Digest) (r : Refusal) → GathersUsed does s [] (Err r) t v
      → (holds t ≡ holds s) × (IsNoMemory r ⊎ ((r ≡ BadDay) × (IsWhole (holds s) → ⊥)))
  gathers_not s t v r x = let a = (gathers does holds exact (holds s)).stopped s t [] v r refl x in (a.0, lacks a.1)
    where
      lacks : Lacks (holds s) (FoundHas (holds s)) (AllFormed does holds exact (holds s)) r → IsNoMemory r ⊎ ((r ≡ BadDay) × (IsWhole (holds s) → ⊥))
      lacks (inl e) = inl e
      lacks (inr (e, n)) = inr (e, λ w. n (λ d f b. w.forms d b f) w.pieces)
