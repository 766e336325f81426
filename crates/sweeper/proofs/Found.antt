-- What the sweeper knows after it has looked or decided, or why it has not.
-- Assumes nothing.
use Rattle.std.proofs.Common.{◌≡◌, ℕ, ◌<◌, ◌⊎◌, inl, inr, ◌∙◌, true, false, Bool, Decides, List, [], Ok, Err, ap, sym, refl, subst}
use Rattle.std.proofs.lemmas.Bool.Decides.{not_from_Decides}
use Rattle.cutting.specs.declared.refusal.Refusal.{Refusal}
use Rattle.cutting.specs.declared.refusal.Refusal.TheVariants.{BadDay, NotAtThatPoint, Unfinished}
use Rattle.digest.specs.declared.value.Digest.{Digest}
use Rattle.store.specs.declared.sweep.Noted.{Noted}
use Rattle.store.specs.declared.sweep.Sweep.TheVariants as kept
use Rattle.store.specs.Asking.{Doing, IsExact}
use Rattle.store.specs.Effects.{with_sweep}
use Rattle.store.specs.State.{State, most_machines}
use Rattle.store.proofs.Exact.{keep}
use Rattle.sweeper.specs.declared.turns.Turns.{Turns}
use Rattle.sweeper.specs.Pieces.{IsWhole}
use Rattle.sweeper.specs.Promise.{AllHaveFinished, MayDecide}
use Rattle.sweeper.specs.Steps as steps
use Rattle.sweeper.specs.Steps.{AsksFinished, FindsTurns, FindsUnused, NotesNumbers, ReadsDays}
use Rattle.sweeper.specs.Sweepers.{Sweeping, all_aside, anew, decides_now, is_resting, is_waiting, noted_of, puts, rests, waits}
use Rattle.sweeper.specs.System.{Decided, Looked}
use Rattle.sweeper.proofs.Absurd.{clash}
use Rattle.sweeper.proofs.Divided.{divides_into, divides_not}
use Rattle.sweeper.proofs.Finished.{asks_finished, asks_not}
use Rattle.sweeper.proofs.Numbers.{no_numbers, numbers}
use Rattle.sweeper.proofs.Told.{IsNoMemory, not_told}
use Rattle.sweeper.proofs.Unused.{gathers_no_unused, gathers_unused}
use Rattle.sweeper.proofs.Used.{IsUsed, gathers_not, gathers_used}

-- memory is wanting, or it is refused for this reason
abbrev pub OrNoMemory : (Refusal → Type 0) → Refusal → Type 0
OrNoMemory P r = IsNoMemory r ⊎ P r

-- why a look is refused: the days are not whole, or it does not rest
abbrev pub NoLook : State → Sweeping → Refusal → Type 0
NoLook z old r = ((r ≡ BadDay) × (IsWhole z → ⊥)) ⊎ ((r ≡ NotAtThatPoint) × (is_resting old ≡ false) × IsWhole z)

-- why it may not decide: the days are not whole; or it is not at that point, or a machine has finished no day
abbrev pub NotNow : State → Sweeping → Refusal → Type 0
NotNow z old r = ((r ≡ NotAtThatPoint) × (decides_now old ≡ false)) ⊎ ((r ≡ Unfinished) × (h : Noted) × (old ≡ waits h) × (AllHaveFinished z h → ⊥))

abbrev pub NoDecision : State → Sweeping → Refusal → Type 0
NoDecision z old r = ((r ≡ BadDay) × (IsWhole z → ⊥)) ⊎ (IsWhole z × NotNow z old r)

-- why no note is taken: not all is aside
abbrev pub NoNote : Sweeping → Refusal → Type 0
NoNote old r = (all_aside old ≡ false) × (r ≡ NotAtThatPoint)

-- what may decide, and does not wait, is to decide anew
is_anew : (old : Sweeping) → is_waiting old ≡ false → decides_now old ≡ true → old ≡ anew
is_anew anew e f = refl
is_anew (waits h) e f = clash {b = true} refl e
is_anew other e f = clash {b = false} f refl

module _ {S : Type 0} (does : Doing S) (holds : S → State) (exact : IsExact holds does) where
  -- a look, or why none is taken
  pub finds_unused : (old : Sweeping) (s t : S) (left : List Digest) → FindsUnused does old s (Ok left) t → (holds t ≡ holds s) × (old ≡ rests) × Looked (holds s) left
  finds_unused old s t left (used, m, x, e, y) =
      let a = gathers_used does holds exact s m used x in
      let b = gathers_unused does holds exact (holds s) used left m t a.0 a.1 y in
      (b.0, e, b.1)

  pub finds_none : (old : Sweeping) (s t : S) (r : Refusal) → FindsUnused does old s (Err r) t → (holds t ≡ holds s) × OrNoMemory (NoLook (holds s) old) r
  finds_none old s t r (inl (v, x)) = let a = gathers_not does holds exact s t v r x in (a.0, damaged a.1)
    where
      damaged : IsNoMemory r ⊎ ((r ≡ BadDay) × (IsWhole (holds s) → ⊥)) → OrNoMemory (NoLook (holds s) old) r
      damaged (inl e) = inl e
      damaged (inr e) = inr (inl e)
  finds_none old s t r (inr (used, m, x, inl (n, e, f))) = let a = gathers_used does holds exact s m used x in (ap holds f ∙ a.0, inr (inr (e, n, a.1.whole)))
  finds_none old s t r (inr (used, m, x, inr (e, v, y))) =
      let a = gathers_used does holds exact s m used x in
      let b = gathers_no_unused does holds exact (holds s) used v m t r a.0 y in
      (b.0, inl b.1)

  -- what is told of whether all have finished
  abbrev Asked : State → Sweeping → Bool → Type 0
  Asked z old b = ((h : Noted) × (old ≡ waits h) × Decides b (AllHaveFinished z h)) ⊎ ((is_waiting old ≡ false) × (b ≡ true))

  asks : (old : Sweeping) (s t : S) (b : Bool) → AsksFinished does old s (Ok b) t → (holds t ≡ holds s) × Asked (holds s) old b
  asks old s t b (inl (h, e, x)) = let a = asks_finished does holds exact (holds s) h s t b refl x in (a.0, inl (h, e, a.1))
  asks old s t b (inr (n, e, f)) = (ap holds e, inr (n, f))

  -- so it may decide, or why not
  may : (z : State) (old : Sweeping) (b : Bool) → Asked z old b → steps.MayDecide old b (Ok tt) → MayDecide z old
  may z old b (inl (h, e, d)) (n, f) = inl (h, e, d.0 f)
  may z old b (inr (w, e)) (n, f) = inr (is_anew old w n)

  may_not : (z : State) (old : Sweeping) (b : Bool) (r : Refusal) → Asked z old b → steps.MayDecide old b (Err r) → NotNow z old r
  may_not z old b r a (inl (n, e)) = inl (e, n)
  may_not z old b r (inl (h, e, d)) (inr (n, f, g)) = inr (g, h, e, not_from_Decides b d f)
  may_not z old b r (inr (w, e)) (inr (n, f, g)) = clash e f

  -- what days have, or why that is not known
  reads_days : (old : Sweeping) (s t : S) (used : List Digest) → ReadsDays does old s (Ok used) t → (holds t ≡ holds s) × MayDecide (holds s) old × IsUsed (holds s) used
  reads_days old s t used (b, m, x, y, k) =
      let a = asks old s m b x in
      let c = gathers_used does holds exact m t used y in
      (c.0 ∙ a.0, may (holds s) old b a.1 k, subst (λ z. IsUsed z used) a.0 c.1)

  reads_no_days : (old : Sweeping) (s t : S) (r : Refusal) → ReadsDays does old s (Err r) t → (holds t ≡ holds s) × OrNoMemory (NoDecision (holds s) old) r
  reads_no_days old s t r (inl (h, b, e, x)) = let a = asks_not does holds exact (holds s) h s t b r refl x in (a.0, inl a.1)
  reads_no_days old s t r (inr (b, m, x, inl (v, y))) =
      let a = asks old s m b x in
      let c = gathers_not does holds exact m t v r y in
      (c.0 ∙ a.0, damaged (subst (λ z. IsNoMemory r ⊎ ((r ≡ BadDay) × (IsWhole z → ⊥))) a.0 c.1))
    where
      damaged : IsNoMemory r ⊎ ((r ≡ BadDay) × (IsWhole (holds s) → ⊥)) → OrNoMemory (NoDecision (holds s) old) r
      damaged (inl e) = inl e
      damaged (inr e) = inr (inl e)
  reads_no_days old s t r (inr (b, m, x, inr (used, y, k))) =
      let a = asks old s m b x in
      let c = gathers_used does holds exact m t used y in
      (c.0 ∙ a.0, inr (inr (subst IsWhole a.0 c.1.whole, may_not (holds s) old b r a.1 k)))

  -- a decision, or why none is taken
  pub finds_turns : (old : Sweeping) (s t : S) (turns : Turns) → FindsTurns does old s (Ok turns) t →
      MayDecide (holds s) old × Decided (holds s) turns.back.keys turns.away.keys × (with_sweep kept.Ends (holds s) ≡ holds t)
  finds_turns old s t turns (used, m, n, x, y, k) =
      let a = reads_days old s m used x in
      let b = divides_into does holds exact (holds s) used turns.back.keys turns.away.keys m n a.0 a.2 y in
      (a.1, b.1, ap (with_sweep kept.Ends) (sym b.0) ∙ keep _ _ kept.Ends (exact n t _ _ k))

  pub finds_no_turns : (old : Sweeping) (s t : S) (r : Refusal) → FindsTurns does old s (Err r) t → (holds t ≡ holds s) × OrNoMemory (NoDecision (holds s) old) r
  finds_no_turns old s t r (inl x) = reads_no_days old s t r x
  finds_no_turns old s t r (inr (used, m, v, x, inl y)) =
      let a = reads_days old s m used x in
      let b = divides_not does holds exact (holds s) used v m t r a.0 y in
      (b.0, inl b.1)
  finds_no_turns old s t r (inr (used, m, v, x, inr (n, y, k))) =
      let a = reads_days old s m used x in
      let b = divides_into does holds exact (holds s) used v.0 v.1 m n a.0 a.2 y in
      let c = not_told does holds exact (holds s) n t b.0 _ r refl k in (c.0, inl c.1)

  -- a note, or why none is taken
  pub notes : (old : Sweeping) (s t : S) (h : Noted) → NotesNumbers does old s (Ok h) t →
      (old ≡ puts []) × ((i : ℕ) → i < most_machines → noted_of h i ≡ (holds s).highest i) × (with_sweep (kept.Waits h) (holds s) ≡ holds t)
  notes old s t h (e, m, x, k) =
      let a = numbers does holds exact (holds s) h s m refl x in
      (e, a.1, ap (with_sweep (kept.Waits h)) (sym a.0) ∙ keep _ _ (kept.Waits h) (exact m t _ _ k))

  pub notes_none : (old : Sweeping) (s t : S) (r : Refusal) → NotesNumbers does old s (Err r) t → (holds t ≡ holds s) × OrNoMemory (NoNote old) r
  notes_none old s t r (inl (n, e, f)) = (ap holds f, inr (n, e))
  notes_none old s t r (inr (e, inl x)) = let a = no_numbers does holds exact (holds s) s t r refl x in (a.0, inl a.1)
  notes_none old s t r (inr (e, inr (h, m, x, k))) =
      let a = numbers does holds exact (holds s) h s m refl x in
      let b = not_told does holds exact (holds s) m t a.0 _ r refl k in (b.0, inl b.1)
