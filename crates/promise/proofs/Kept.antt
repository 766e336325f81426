-- What days have is there, and nothing of it is lost.
-- Assumes nothing.
use Rattle.std.proofs.Common.{◌≡◌, ◌⊎◌, ℕ, inl, inr, List, [], ◌∷◌, Some, Option, IsSome, arith}
use Rattle.digest.specs.declared.value.Digest.{Digest}
use Rattle.digest.specs.Digests.{digest_of}
use Rattle.dayfile.specs.Form.{day_file}
use Rattle.days.specs.Machines.{Work}
use Rattle.days.specs.System as machines
use Rattle.sweeper.specs.Pieces.{IsRight, IsThere}
use Rattle.sweeper.specs.Sweepers.{Sweeping, ends}
use Rattle.sweeper.specs.System as sweeping
use Rattle.promise.specs.Promise.{AllIsRight, DayHas, DaysAreOfForm, DaysAreWhole, MachineHas, NothingIsLost, SeenIsThere, ThrowsOnly}
use Rattle.promise.specs.System.{Step, World, beside_machines, beside_sweeper, by_machine, by_sweeper, parts}
use Rattle.promise.proofs.Bounds.{Bounds, bounds}
use Rattle.promise.proofs.Forms.{file_has, from_form}
use Rattle.promise.proofs.Names.{tests}
use Rattle.promise.proofs.Safe.{Safe, safe}

ruleset keep = (arith, tests)

-- what is there is right
is_right : (n : Digest) (o : Option (List ℕ)) → ((b : List ℕ) → o ≡ Some b → digest_of b ≡ n) → IsSome o → IsRight n o
is_right n o f h = grind arith

right_in_place : {w : World} → Bounds w → (n : Digest) → IsSome (w.store.place n) → IsRight n (w.store.place n)
right_in_place {w} b n h = is_right n (w.store.place n) (λ p e. b.right n p (inl e)) h

is_there : {w : World} → Bounds w → (n : Digest) → IsSome (w.store.place n) ⊎ IsSome (w.store.aside n) → IsThere w.store n
is_there b n (inl h) = inl (right_in_place b n h)
is_there {w} b n (inr h) = inr (is_right n (w.store.aside n) (λ p e. b.right n p (inr e)) h)

pub days_are_whole : DaysAreWhole
days_are_whole ms a w r n (d, es, e, h) =
    let s = safe ms a r in
    is_there (bounds ms a r) n (grind (arith, s.kept d (day_file d es) n e.1 (file_has w.store d es n e h)))

pub days_are_of_form : DaysAreOfForm
days_are_of_form ms a w r d b e = from_form d b ((bounds ms a r).forms d b e)

pub seen_is_there : SeenIsThere
seen_is_there ms a w r n (i, d, o, e, h) =
    let s = safe ms a r in
    let g = s.good i in
    is_there (bounds ms a r) n (grind (arith, g.there n))

pub all_is_right : AllIsRight
all_is_right ms a w r = (bounds ms a r).right

-- when the sweeper throws away, all that days have and days under way is in its place
in_place : (w : World) (n : Digest) (away : List Digest) → w.sweeper ≡ ends [] away → Bounds w → Safe w → DayHas w n ⊎ MachineHas w n → IsRight n (w.store.place n)
in_place w n away x b s (inl (d, es, e, h)) = right_in_place b n (grind (arith, s.kept d (day_file d es) n e.1 (file_has w.store d es n e h)))
in_place w n away x b s (inr (i, d, o, e, h)) =
    let g = s.good i in
    right_in_place b n (grind (arith, g.sure))

-- each step throws away only what nobody has
by_machines : (x : Sweeping) {v w : machines.World} → machines.Step v w → Bounds (beside_sweeper v x) → Safe (beside_sweeper v x) → ThrowsOnly (beside_sweeper v x) (beside_sweeper w x)
by_machines x (machines.breaks w i) b s = grind keep
by_machines x other b s = grind keep

by_sweepers : (m : ℕ → Option Work) {v w : sweeping.World} → sweeping.Step v w → Bounds (beside_machines v m) → Safe (beside_machines v m) → ThrowsOnly (beside_machines v m) (beside_machines w m)
by_sweepers m (sweeping.throws w n away e) b s = let f = in_place _ n (n ∷ away) e b s in grind keep
by_sweepers m other b s = grind keep

throws_only : {v w : World} → Step v w → Bounds v → Safe v → ThrowsOnly v w
throws_only (by_machine x k) b s = by_machines x k b s
throws_only (by_sweeper m k) b s = by_sweepers m k b s
throws_only (parts w i o) b s = grind keep

pub nothing_is_lost : NothingIsLost
nothing_is_lost ms a v r w k = throws_only k (bounds ms a r) (safe ms a r)
