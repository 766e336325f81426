-- A whole sweep leaves nothing aside, and nothing in its place that no day had when it looked and whenever it decided, and that no machine saw to.
-- Assumes nothing.
use Rattle.std.proofs.Common.{◌≡◌, ◌⊎◌, inl, inr, ◌∙◌, ℕ, arith, true, List, [], None, IsSome, Some, Option, refl}
use Rattle.digest.specs.declared.value.Digest.{Digest}
use Rattle.digest.specs.Digests.{digest_of}
use Rattle.store.specs.declared.sweep.Noted.{Noted}
use Rattle.store.specs.State.{State, is_in}
use Rattle.days.specs.Machines.{Work, with_piece}
use Rattle.days.specs.System as machines
use Rattle.sweeper.specs.Pieces.{FoundHas}
use Rattle.sweeper.specs.Sweepers.{Sweeping, anew, ends, puts, rests, waits}
use Rattle.sweeper.specs.System as sweeping
use Rattle.promise.specs.Promise.{DayHas, SeesTo, SweepsAreWhole}
use Rattle.promise.specs.Runs.{DecidesAnew, EndsSweep, PutsAside, Run, Through, Waits, WholeSweep, further, here, onward, still}
use Rattle.promise.specs.System.{Step, World, beside_machines, beside_sweeper, by_machine, by_sweeper, parts}
use Rattle.promise.proofs.Bounds.{Bounds, bounds, bounds_run, bounds_step}
use Rattle.promise.proofs.Names.{tests}
use Rattle.promise.proofs.Safe.{Safe, safe, safe_run}

ruleset keep = (arith, tests)

-- how a sweep ends: nothing is left to do, and no piece moves
record Ended (s t : State) (back away : List Digest) : Type 0 where
  place : (n : Digest) → t.place n ≡ s.place n
  aside : (n : Digest) → t.aside n ≡ s.aside n
  none_back : back ≡ []
  none_away : away ≡ []

-- so it is where it rests after it ended a sweep, by a step of its own, and by any
sweeper_ends : (m : ℕ → Option Work) {v w : sweeping.World} → sweeping.Step v w → Bounds (beside_machines v m) → (back away : List Digest) → v.sweeper ≡ ends back away → w.sweeper ≡ rests → Ended v.store w.store back away
sweeper_ends m (sweeping.rests_again w e) b back away f g = record { place = λ n. refl; aside = λ n. refl; none_back = cc; none_away = cc }
sweeper_ends m (sweeping.stops w) b back away f g = absurd (grind (b.is_kept, keep))
sweeper_ends m other b back away f g = absurd cc

ends_so : {v w : World} → Step v w → Bounds v → (back away : List Digest) → v.sweeper ≡ ends back away → w.sweeper ≡ rests → Ended v.store w.store back away
ends_so (by_machine x k) b back away f g = absurd cc
ends_so (by_sweeper m k) b back away f g = sweeper_ends m k b back away f g
ends_so (parts w i o) b back away f g = absurd cc

-- it ends its sweep before it rests: it does not rest when it is to decide anew
abbrev Ends : World → Type 0
Ends w = EndsSweep w ⊎ (w.sweeper ≡ anew)

sweeper_anew : (m : ℕ → Option Work) {v w : sweeping.World} → sweeping.Step v w → Bounds (beside_machines v m) → v.sweeper ≡ anew → w.sweeper ≡ rests → ⊥
sweeper_anew m (sweeping.stops w) b f g = grind (b.is_kept, keep)
sweeper_anew m (sweeping.rests_again w e) b f g = absurd (grind (e, f, keep))
sweeper_anew m other b f g = absurd cc

ends_last : {v w : World} → Step v w → Bounds v → Ends v → w.sweeper ≡ rests → EndsSweep v
ends_last k b (inl e) g = e
ends_last (by_machine x k) b (inr f) g = absurd cc
ends_last (by_sweeper m k) b (inr f) g = absurd (sweeper_anew m k b f g)
ends_last (parts w i o) b (inr f) g = absurd cc

-- it does not wait any more once it ends its sweep
waits_ends : (x : Sweeping) (h : Noted) (w : World) → x ≡ waits h → Ends w → x ≡ w.sweeper → ⊥
waits_ends x h w e (inl (back, away, f)) g = absurd cc
waits_ends x h w e (inr f) g = absurd cc

-- a piece that no day had when the sweeper looked, and that no machine saw to: it is put aside, and does not go back
abbrev Gone : State → Digest → Sweeping → Type 0
Gone s n rests = Unit {0}
Gone s n (puts left) = IsSome (s.place n) → is_in n left ≡ true
Gone s n (waits h) = s.place n ≡ None
Gone s n (ends back away) = (s.place n ≡ None) × (is_in n back ≡ true → ⊥)
Gone s n anew = s.place n ≡ None

-- it looks, decides, or decides anew: then it finds what days have
abbrev Finds : Sweeping → Sweeping → Type 0
Finds rests (puts left) = Unit {0}
Finds (waits h) (ends back away) = Unit {0}
Finds anew (ends back away) = Unit {0}
Finds x y = ⊥

-- each step keeps it so: of a machine, if it does not see to the piece; of the sweeper, if no day that it finds then has it; and any
machines_gone : (n : Digest) (x : Sweeping) {v w : machines.World} → machines.Step v w → (SeesTo n (beside_sweeper v x) (beside_sweeper w x) → ⊥) → Gone v.store n x → Gone w.store n x
machines_gone n x (machines.writes w i d p m l o) s g =
    let f = λ (c : Work) (h : w.makes i ≡ Some c) (k : (machines.world w.store i (Some (with_piece (digest_of p) d)) w).makes i ≡ Some (with_piece n c)). s (i, c, h, k) in
    grind keep
machines_gone n x other s g = g

sweeper_gone : (n : Digest) (m : ℕ → Option Work) {v w : sweeping.World} → sweeping.Step v w → Bounds (beside_machines v m) → (Finds v.sweeper w.sweeper → FoundHas v.store n → ⊥) → Gone v.store n v.sweeper → Gone w.store n w.sweeper
sweeper_gone n m (sweeping.looks w left e l) b none g = let f = none (rw e tt) in grind keep
sweeper_gone n m (sweeping.lists w q left e o l) b none g = grind keep
sweeper_gone n m (sweeping.puts_aside w q left e o) b none g = grind keep
sweeper_gone n m (sweeping.notes w h e f) b none g = grind keep
sweeper_gone n m (sweeping.decides w h back away e f d) b none g = let f = none (rw e tt) in grind keep
sweeper_gone n m (sweeping.decides_anew w back away e d) b none g = let f = none (rw e tt) in grind keep
sweeper_gone n m (sweeping.puts_back w q back away e) b none g = grind keep
sweeper_gone n m (sweeping.throws w q away e) b none g = grind keep
sweeper_gone n m (sweeping.rests_again w e) b none g = grind keep
sweeper_gone n m (sweeping.stops w) b none g = grind keep

-- no machine sees to it, or at least what the sweeper does changes
gone_step : (n : Digest) {v w : World} → Step v w → (SeesTo n v w → v.sweeper ≡ w.sweeper → ⊥) → Bounds v → (Finds v.sweeper w.sweeper → DayHas v n → ⊥) → Gone v.store n v.sweeper → Gone w.store n w.sweeper
gone_step n (by_machine x k) s b d g = machines_gone n x k (λ y. s y refl) g
gone_step n (by_sweeper m k) s b d g = sweeper_gone n m k b (λ t f. d t (f.day, f.files, f.is_there, f.has)) g
gone_step n (parts w i o) s b d g = g

-- what is known of such a piece on the way
record Known (n : Digest) (w : World) : Type 0 where
  bounds : Bounds w
  gone : Gone w.store n w.sweeper

-- by a step
known_step : (n : Digest) {v w : World} → Step v w → (SeesTo n v w → v.sweeper ≡ w.sweeper → ⊥) → (Finds v.sweeper w.sweeper → DayHas v n → ⊥) → Known n v → Known n w
known_step n k s d h = record { bounds = bounds_step k h.bounds; gone = gone_step n k s h.bounds d h.gone }

-- what holds all along holds at both ends
module _ {P : World → Type 0} {Q : World → World → Type 0} where
  first : {v w : World} → Through P Q v w → P v
  first (here p) = p
  first (further t k q p) = first t

  last : {v w : World} → Through P Q v w → P w
  last (here p) = p
  last (further t k q p) = p

  run_on : {u v w : World} → Run u v → Through P Q v w → Run u w
  run_on r (here p) = r
  run_on r (further t k q p) = onward (run_on r t) k

-- a step by which no machine sees to it, and by which the sweeper neither looks nor decides while a day has it
abbrev Spares : Digest → World → World → Type 0
Spares n x y = (SeesTo n x y → ⊥) × (Finds x.sweeper y.sweeper → DayHas x n → ⊥)

-- such are the steps while it puts aside; while it waits; and while it ends its sweep, if no day has it when it decides anew
puts_on : (n : Digest) (x y : World) → PutsAside x → PutsAside y → (SeesTo n x y → ⊥) → Spares n x y
puts_on n x y (left, e) p q = (q, λ t. absurd (rw e at t))

waits_on : (n : Digest) (x y : World) → Waits x → Waits y → (SeesTo n x y → ⊥) → Spares n x y
waits_on n x y (h, e) (h', f) q = (q, λ t. absurd (rw (e, f) at t))

ends_on : (n : Digest) (x y : World) → Ends x → Ends y → (SeesTo n x y → ⊥) × (DecidesAnew x y → DayHas x n → ⊥) → Spares n x y
ends_on n x y (inl (back, away, e)) p (q, d) = (q, λ t. absurd (rw e at t))
ends_on n x y (inr e) (inl f) (q, d) = (q, λ t. d (e, f))
ends_on n x y (inr e) (inr f) (q, d) = (q, λ t. absurd (rw (e, f) at t))

-- by a phase of such steps
known_through : (n : Digest) {P : World → Type 0} {Q : World → World → Type 0} {v w : World} → ((x y : World) → P x → P y → Q x y → Spares n x y) → Through P Q v w → Known n v → Known n w
known_through n f (here p) h = h
known_through n f (further t k q p) h =
    let (s, d) = f _ _ (last t) p q in
    known_step n k (λ y e. s y) d (known_through n f t h)

module _ {P : World → Type 0} {Q : World → World → Type 0} {u v : World} where
  -- the run to the last step
  to_over : (s : WholeSweep P Q u v) → Run u s.over
  to_over s = run_on (onward (run_on (onward (run_on (onward still s.looks) s.puts_aside) s.notes) s.waits) s.decides) s.ends

  -- nothing is aside at the end
  none_aside : (s : WholeSweep P Q u v) → Bounds s.over → Safe s.over → (n : Digest) → v.store.aside n ≡ None
  none_aside s b z n =
      let (back, away, e) = ends_last s.last b (last s.ends) s.rests in
      let f = ends_so s.last b back away e s.rests in
      let r = z.rest n in
      grind (keep, f.aside n, f.none_back, f.none_away)

-- no such piece is in its place at the end
none_in_place : (n : Digest) {u v : World} → Bounds u → WholeSweep (λ w. DayHas w n → ⊥) (λ x y. SeesTo n x y → ⊥) u v → v.store.place n ≡ None
none_in_place n b s =
    let (left, e₁) = first s.puts_aside in
    let (left', f₁) = last s.puts_aside in
    let (h, e₂) = first s.waits in
    let (h', f₂) = last s.waits in
    let k₀ : Known n _ = record { bounds = b; gone = rw s.rested tt } in
    let k₁ = known_through n (puts_on n) s.puts_aside (known_step n s.looks (λ y f. absurd cc) (λ t. s.at_look) k₀) in
    let k₂ = known_through n (waits_on n) s.waits (known_step n s.notes (λ y f. absurd cc) (λ t. absurd (rw f₁ at t)) k₁) in
    let k₃ = known_through n (ends_on n) s.ends (known_step n s.decides (λ y f. waits_ends s.ready.sweeper h' s.decided f₂ (first s.ends) f) (λ t. s.at_decision) k₂) in
    let (back, away, f₃) = ends_last s.last k₃.bounds (last s.ends) s.rests in
    (ends_so s.last k₃.bounds back away f₃ s.rests).place n ∙ (rw f₃ at k₃.gone).0

-- both
pub sweeps_are_whole : SweepsAreWhole
sweeps_are_whole ms a u r v = (λ s. none_aside s (bounds_run (to_over s) (bounds ms a r)) (safe_run (to_over s) (bounds ms a r) (safe ms a r)), λ n. none_in_place n (bounds ms a r))
