-- A sweep spares what days have, and moves what it puts aside.
-- Assumes nothing.
use Rattle.std.proofs.Common.{⊎_elim, inl, inr, ◌≡◌, ◌⊎◌, ℕ, true, length, refl, ap, List, ◌∷◌, Option, IsSome, arith}
use Rattle.digest.specs.declared.value.Digest.{Digest}
use Rattle.store.specs.State.{is_in}
use Rattle.days.specs.Machines.{Work}
use Rattle.days.specs.System as machines
use Rattle.sweeper.specs.Pieces.{FoundHas}
use Rattle.sweeper.specs.Sweepers.{Sweeping, puts, rests}
use Rattle.sweeper.specs.System as sweeping
use Rattle.promise.specs.Promise.{AsideIsMoved, DayHas, Moves, SweepsSpare}
use Rattle.promise.specs.Runs.{PutsAside, Run, Through, further, here, onward, still}
use Rattle.promise.specs.System.{Step, World, beside_machines, beside_sweeper, by_machine, by_sweeper, parts}
use Rattle.promise.proofs.Bounds.{Bounds, bounds_run, bounds_start}
use Rattle.promise.proofs.Names.{tests}

-- a list is not its own rest
not_rest : (n : Digest) (left : List Digest) → n ∷ left ≡ left → ⊥
not_rest n left e = let f : length (n ∷ left) ≡ length left = ap length e in grind arith

ruleset keep = (arith, tests, not_rest)

-- each step moves, if anything, the next piece
moves_by_machine : (x : Sweeping) {v w : machines.World} → machines.Step v w → Moves (beside_sweeper v x) (beside_sweeper w x)
moves_by_machine x (machines.breaks w i) = grind keep
moves_by_machine x other = grind keep

moves_by_sweeper : (m : ℕ → Option Work) {v w : sweeping.World} → sweeping.Step v w → Moves (beside_machines v m) (beside_machines w m)
moves_by_sweeper m (sweeping.looks w left e l) = grind keep
moves_by_sweeper m (sweeping.lists w n left e o l) = grind keep
moves_by_sweeper m (sweeping.puts_aside w n left e o) = grind keep
moves_by_sweeper m (sweeping.notes w h e f) = grind keep
moves_by_sweeper m (sweeping.decides w h back away e f d) = grind keep
moves_by_sweeper m (sweeping.decides_anew w back away e d) = grind keep
moves_by_sweeper m (sweeping.puts_back w n back away e) = grind keep
moves_by_sweeper m (sweeping.throws w n away e) = grind keep
moves_by_sweeper m (sweeping.rests_again w e) = grind keep
moves_by_sweeper m (sweeping.stops w) = grind keep

pub aside_is_moved : AsideIsMoved
aside_is_moved ms a v r w (by_machine x k) = moves_by_machine x k
aside_is_moved ms a v r w (by_sweeper m k) = moves_by_sweeper m k
aside_is_moved ms a v r w (parts u i o) = grind keep

-- the sweeper rests, and a piece is in its place and in no day that it can find; or it puts aside, and the piece is left
abbrev pub Looks : World → Digest → Type 0
Looks v n = (v.sweeper ≡ rests) × IsSome (v.store.place n) × (FoundHas v.store n → ⊥)

abbrev pub IsLeft : World → Digest → Type 0
IsLeft v n = (left : List Digest) × (v.sweeper ≡ puts left) × (is_in n left ≡ true)

-- where a piece is left, one of these was so before
before : (m : ℕ → Option Work) {v w : sweeping.World} → sweeping.Step v w → (n : Digest) (left : List Digest) → w.sweeper ≡ puts left → is_in n left ≡ true → Looks (beside_machines v m) n ⊎ IsLeft (beside_machines v m) n
before m (sweeping.looks w more e l) n left f h = inl (grind (keep, l.spares n))
before m (sweeping.lists w x more e o l) n left f h = inr (grind keep)
before m (sweeping.puts_aside w x more e o) n left f h = inr (x ∷ more, e, grind keep)
before m (sweeping.notes w g e d) n left f h = grind keep
before m (sweeping.decides w g back away e d c) n left f h = grind keep
before m (sweeping.decides_anew w back away e d) n left f h = grind keep
before m (sweeping.puts_back w x back away e) n left f h = grind keep
before m (sweeping.throws w x away e) n left f h = grind keep
before m (sweeping.rests_again w e) n left f h = grind keep
before m (sweeping.stops w) n left f h = grind keep

-- so it was when the sweeper looked, in a run from s, and it has put aside ever since
abbrev pub WasSpared : World → World → Digest → Type 0
WasSpared s w n = (u v : World) × Run s u × (u.sweeper ≡ rests) × IsSome (u.store.place n) × (DayHas u n → ⊥) × Step u v × Through PutsAside (λ x y. Unit {0}) v w

-- it goes on; or it has just looked
goes_on : {s v w : World} (n : Digest) (left : List Digest) → Step v w → w.sweeper ≡ puts left → WasSpared s v n → WasSpared s w n
goes_on n left k e (u, x, r, f, i, g, l, t) = (u, x, r, f, i, g, l, further t k tt (left, e))

looks_at : {s v w : World} (n : Digest) (left : List Digest) → Bounds v → Run s v → Step v w → w.sweeper ≡ puts left → Looks v n → WasSpared s w n
looks_at {v = v} {w = w} n left b r k e (rest, is, none) =
    (v, w, r, rest, is, λ (d, es, f, h). none (record { day = d; files = es; found = b.days d _ f.1; is_there = f; has = h }), k, here (left, e))

spared : {s w : World} → Run s w → Bounds s → s.sweeper ≡ rests → (n : Digest) (left : List Digest) → w.sweeper ≡ puts left → is_in n left ≡ true → WasSpared s w n
spared still b f n left e h = absurd (grind arith)
spared (onward r (by_machine x k)) b f n left e h = goes_on n left (by_machine x k) e (spared r b f n left e h)
spared (onward r (parts u i o)) b f n left e h = goes_on n left (parts u i o) e (spared r b f n left e h)
spared (onward r (by_sweeper m k)) b f n left e h =
    ⊎_elim
    (looks_at n left (bounds_run r b) r (by_sweeper m k) e)
    (λ (more, g, l). goes_on n left (by_sweeper m k) e (spared r b f n more g l))
    (before m k n left e h)

pub sweeps_spare : SweepsSpare
sweeps_spare ms a w r = spared r (bounds_start ms a) refl
