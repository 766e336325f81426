-- What the steps of the sweeper have done, and why they are refused.
-- Assumes nothing.
use Rattle.std.proofs.Common.{◌≡◌, ℕ, ◌<◌, ◌⊎◌, inl, inr, ◌∙◌, true, false, IsSome, List, [], ◌∷◌, length, Some, None, Ok, Err, Result, ap, sym, refl, subst}
use Rattle.cutting.specs.declared.refusal.Refusal.{Refusal}
use Rattle.cutting.specs.declared.refusal.Refusal.TheVariants.{NotAtThatPoint, TooManyNames}
use Rattle.cutting.specs.Refusals.{number_of}
use Rattle.digest.specs.declared.value.Digest.{Digest}
use Rattle.store.specs.declared.sweep.Sweep.TheVariants as sweep
use Rattle.store.specs.Asking.{Doing, IsExact}
use Rattle.store.specs.Effects.{with_sweep}
use Rattle.store.specs.State.{State, most_names}
use Rattle.store.proofs.Exact.{enlisted_own, keep, put_aside, put_back, threw}
use Rattle.sweeper.specs.declared.done.Done.{Done}
use Rattle.sweeper.specs.declared.done.Done.TheVariants as done
use Rattle.sweeper.specs.Promise.{GoesOn, MayDecide, OnlyMoves, Promised, Steps}
use Rattle.sweeper.specs.Steps.{Decides, Looks, Nexts, Notes, PutsAside, RestsIfDone}
use Rattle.sweeper.specs.Sweepers.{Sweeping, all_aside, ends, is_ending, is_over, is_putting, puts, rests, turns_of}
use Rattle.sweeper.specs.System.{Decided}
use Rattle.sweeper.proofs.Absurd.{clash, done_refused, numbered}
use Rattle.sweeper.proofs.Found as found
use Rattle.sweeper.proofs.Found.{NoDecision, NoLook}
use Rattle.sweeper.proofs.Moves.{first_of_list, listed_then}
use Rattle.sweeper.proofs.Pieces.{IsAway, IsBack, IsFull, away_kept, back_kept, listed_aside, not_listed, put_aside_is, put_back_is, thrown_is}
use Rattle.sweeper.proofs.Told.{IsNoMemory, for_memory, unmoved}

-- why a step is refused
the_refusal : (r q : Refusal) → ◌≡◌ {A = Result Done Refusal} (Err r) (Err q) → r ≡ q
the_refusal r q e = cc

-- a reason with a number
reason : {P : Type 0} (r : Refusal) (k : ℕ) → number_of r ≡ Some k → IsNoMemory r ⊎ P → P
reason r k n (inl e) = numbered r k n e
reason r k n (inr x) = x

module _ {S : Type 0} (does : Doing S) (holds : S → State) (exact : IsExact holds does) where
  -- what is so whatever is kept is so after it rests, too
  rested : (P : State → Type 0) (turns : List Digest × List Digest) (m t : S) (new : Sweeping) → ((x : State) → P x → P (with_sweep sweep.Rests x)) → P (holds m) → RestsIfDone does turns m (Ok tt) new t → P (holds t)
  rested P turns m t new f p (inl (e, g, k)) = subst P (keep _ _ sweep.Rests (exact m t _ _ k)) (f (holds m) p)
  rested P turns m t new f p (inr (n, g, e)) = subst P (sym (ap holds e)) p

  -- a piece is put aside
  put_aside_done : (old new : Sweeping) (s t : S) (n : Digest) → PutsAside does old s (Ok (done.PutAside n)) new t →
      (left : List Digest) × (old ≡ puts (n ∷ left)) × (new ≡ puts left) × OnlyMoves n (holds s) (holds t) × ((holds t).own n ≡ true)
      × ((holds t).place n ≡ None) × (IsSome ((holds s).place n) → (holds t).aside n ≡ (holds s).place n)
  put_aside_done old new s t n (inl (p, q, e, same)) = done_refused _ _ q
  put_aside_done old new s t n (inr (left, more, e, f, (g, m, b, x, y))) =
      let l = enlisted_own _ _ n (exact s m _ _ x) in
      let a = listed_aside n _ _ _ l (listed_then _ _ n l) (put_aside_is n _ _ (put_aside _ _ n b (exact m t _ _ y)).1) in
      (more, e ∙ ap puts g, f, a.0, a.1, a.2, a.3)

  -- it has decided
  decided_done : (old new : Sweeping) (s t : S) (b a : ℕ) → Decides does old s (Ok (done.Decided b a)) new t →
      MayDecide (holds s) old × (back : List Digest) × (away : List Digest) × (b ≡ length back) × (a ≡ length away) × Decided (holds s) back away
      × (((back ≡ []) × (away ≡ []) × (new ≡ rests) × (holds t ≡ with_sweep sweep.Rests (holds s))) ⊎ ((is_over (back, away) ≡ false) × (new ≡ ends back away) × (holds t ≡ with_sweep sweep.Ends (holds s))))
  decided_done old new s t b a (turns, m, x, y, e, f) =
      let k = found.finds_turns does holds exact old s m turns x in
      (k.0, turns.back.keys, turns.away.keys, e, f, k.1, after k.2 y)
    where
      after : with_sweep sweep.Ends (holds s) ≡ holds m → RestsIfDone does (turns_of turns) m (Ok tt) new t →
          ((turns.back.keys ≡ []) × (turns.away.keys ≡ []) × (new ≡ rests) × (holds t ≡ with_sweep sweep.Rests (holds s))) ⊎ ((is_over (turns.back.keys, turns.away.keys) ≡ false) × (new ≡ ends turns.back.keys turns.away.keys) × (holds t ≡ with_sweep sweep.Ends (holds s)))
      after k (inl (g, i, j)) = inl (ap (λ z. z.0) g, ap (λ z. z.1) g, i, sym (ap (with_sweep sweep.Rests) k ∙ keep _ _ sweep.Rests (exact m t _ _ j)))
      after k (inr (n, g, i)) = inr (n, g, ap holds i ∙ sym k)

  -- what it does after a turn
  after_turn : (left : List Digest × List Digest) (m t : S) (new : Sweeping) → RestsIfDone does left m (Ok tt) new t → GoesOn left.0 left.1 new
  after_turn left m t new (inl (g, i, j)) = inr (ap (λ z. z.0) g, ap (λ z. z.1) g, i)
  after_turn left m t new (inr (n, g, i)) = inl (n, g)

  -- a piece is put back; or thrown away
  put_back_done : (old new : Sweeping) (s t : S) (n : Digest) → Nexts does old s (Ok (done.PutBack n)) new t →
      (back : List Digest) × (away : List Digest) × (old ≡ ends (n ∷ back) away) × OnlyMoves n (holds s) (holds t)
      × ((holds t).aside n ≡ None) × (IsSome ((holds s).aside n) → (holds t).place n ≡ (holds s).aside n) × GoesOn back away new
  put_back_done old new s t n (inl (p, q, e, same)) = done_refused _ _ q
  put_back_done old new s t n (inr (turns, e, (left, m, (f, b, x), y))) =
      let a = rested (IsBack n (holds s)) left m t new (λ z. back_kept n (holds s) z sweep.Rests) (put_back_is n _ _ (put_back _ _ n b (exact s m _ _ x)).1) y in
      (left.0, left.1, e ∙ ap (λ (z : List Digest × List Digest). ends z.0 z.1) f, a.0, a.1, a.2, after_turn left m t new y)

  thrown_away_done : (old new : Sweeping) (s t : S) (n : Digest) → Nexts does old s (Ok (done.ThrownAway n)) new t →
      (away : List Digest) × (old ≡ ends [] (n ∷ away)) × OnlyMoves n (holds s) (holds t) × ((holds t).aside n ≡ None) × ((holds t).place n ≡ (holds s).place n) × GoesOn [] away new
  thrown_away_done old new s t n (inl (p, q, e, same)) = done_refused _ _ q
  thrown_away_done old new s t n (inr (turns, e, (left, m, (f, g, b, x), y))) =
      let a = rested (IsAway n (holds s)) left m t new (λ z. away_kept n (holds s) z sweep.Rests) (thrown_is n _ _ (threw _ _ n b (exact s m _ _ x)).1) y in
      (left.1, e ∙ ap (λ (z : List Digest × List Digest). ends z.0 z.1) f, a.0, a.1, a.2, subst (λ b. GoesOn b left.1 new) g (after_turn left m t new y))

  -- a refusal by a number has changed nothing
  abbrev Unchanged : Sweeping → Sweeping → S → S → Type 0
  Unchanged old new s t = (holds t ≡ holds s) × (new ≡ old)

  -- of a look; of a note; of a decision; of a turn
  look_not : (old new : Sweeping) (s t : S) (r : Refusal) (k : ℕ) → number_of r ≡ Some k → Looks does old s (Err r) new t → Unchanged old new s t × NoLook (holds s) old r
  look_not old new s t r k n (e, x) = let a = found.finds_none does holds exact old s t r x in ((a.0, e), reason r k n a.1)

  note_not : (old new : Sweeping) (s t : S) (r : Refusal) (k : ℕ) → number_of r ≡ Some k → Notes does old s (Err r) new t → Unchanged old new s t × ((r ≡ NotAtThatPoint) × (old ≡ puts [] → ⊥))
  note_not old new s t r k n (e, x) =
      let a = found.notes_none does holds exact old s t r x in
      let b = reason r k n a.1 in
      ((a.0, e), (b.1, λ f. clash (ap all_aside f) b.0))

  decide_not : (old new : Sweeping) (s t : S) (r : Refusal) (k : ℕ) → number_of r ≡ Some k → Decides does old s (Err r) new t → Unchanged old new s t × NoDecision (holds s) old r
  decide_not old new s t r k n (inl (e, x)) = let a = found.finds_no_turns does holds exact old s t r x in ((a.0, e), reason r k n a.1)
  decide_not old new s t r k n (inr (turns, m, x, (e, f, y))) = numbered r k n (for_memory does holds exact m t _ r refl y)

  next_not : (old new : Sweeping) (s t : S) (r : Refusal) (k : ℕ) → number_of r ≡ Some k → Nexts does old s (Err r) new t → Unchanged old new s t × ((r ≡ NotAtThatPoint) × (is_ending old ≡ false))
  next_not old new s t r k n (inl (p, q, e, same)) = ((ap holds same, e), (the_refusal r _ q, p))
  next_not old new s t r k n (inr (turns, e, inl (f, (g, q, inl x)))) = numbered r k n (for_memory does holds exact s t _ r refl x)
  next_not old new s t r k n (inr (turns, e, inl (f, (g, q, inr x)))) = numbered r k n (for_memory does holds exact s t _ r refl x)
  next_not old new s t r k n (inr (turns, e, inr (d, left, m, x, (f, g, y)))) = numbered r k n (for_memory does holds exact m t _ r refl y)

  -- why a piece is not put aside
  abbrev NotAside : Sweeping → State → Refusal → Type 0
  NotAside old z r =
      ((r ≡ NotAtThatPoint) × ((n : Digest) (left : List Digest) → old ≡ puts (n ∷ left) → ⊥))
      ⊎ ((r ≡ TooManyNames) × (n : Digest) × (left : List Digest) × (old ≡ puts (n ∷ left)) × (z.own n ≡ false) × (z.names < most_names → ⊥))

  put_aside_not : (old new : Sweeping) (s t : S) (r : Refusal) (k : ℕ) → number_of r ≡ Some k → PutsAside does old s (Err r) new t → Unchanged old new s t × NotAside old (holds s) r
  put_aside_not old new s t r k n (inl (p, q, e, same)) = ((ap holds same, e), inl (the_refusal r _ q, λ x left f. clash (ap is_putting f) p))
  put_aside_not old new s t r k n (inr (left, others, e, f, (g, inl (none, q, same)))) = ((ap holds same, f ∙ ap puts g ∙ sym e), inl (q, λ x more h. is_none x more (sym none) (sym e ∙ h)))
    where
      is_none : (x : Digest) (more : List Digest) → [] ≡ left → puts left ≡ puts (x ∷ more) → ⊥
      is_none x more h i =
          let j : left ≡ x ∷ more = cc in
          let l : [] ≡ x ∷ more = h ∙ j in
          cc
  put_aside_not old new s t r k n (inr (left, others, e, f, (g, inr (x, first, inl y)))) =
      ((unmoved does holds exact s t _ r y, f ∙ ap puts g ∙ sym e), inr (why (reason r k n (not_listed _ _ x r (exact s t _ _ y)))))
    where
      why : IsFull (holds s) x r → (r ≡ TooManyNames) × (n : Digest) × (left : List Digest) × (old ≡ puts (n ∷ left)) × ((holds s).own n ≡ false) × ((holds s).names < most_names → ⊥)
      why (a, b, c) = let h = first_of_list left x first in (a, x, h.0, e ∙ ap puts h.1, b, c)
  put_aside_not old new s t r k n (inr (left, others, e, f, (g, inr (x, first, inr (m, y, z))))) = numbered r k n (for_memory does holds exact m t _ r refl z)

  -- of any step
  step_not : (old new : Sweeping) (s t : S) (r : Refusal) (k : ℕ) → number_of r ≡ Some k → Steps does old s (Err r) new t → Unchanged old new s t
  step_not old new s t r k n (inl x) = (look_not old new s t r k n x).0
  step_not old new s t r k n (inr (inl x)) = (put_aside_not old new s t r k n x).0
  step_not old new s t r k n (inr (inr (inl x))) = (note_not old new s t r k n x).0
  step_not old new s t r k n (inr (inr (inr (inl x)))) = (decide_not old new s t r k n x).0
  step_not old new s t r k n (inr (inr (inr (inr x)))) = (next_not old new s t r k n x).0

-- all that was promised
pub kept : {S : Type 0} (does : Doing S) → Promised does
kept does holds exact =
    record {
      looked = λ old new s t k (left, x, e, n). let a = found.finds_unused does holds exact old s t left x in (a.1, a.0, left, e, n, a.2);
      put_aside = put_aside_done does holds exact;
      noted = λ old new s t (h, x, e). let a = found.notes does holds exact old s t h x in (a.0, h, e, sym a.2, a.1);
      decided = decided_done does holds exact;
      put_back = put_back_done does holds exact;
      thrown_away = thrown_away_done does holds exact;
      refused = step_not does holds exact;
      look_refused = λ old new s t r k n x. (look_not does holds exact old new s t r k n x).1;
      decide_refused = λ old new s t r k n x. (decide_not does holds exact old new s t r k n x).1;
      put_aside_refused = λ old new s t r k n x. (put_aside_not does holds exact old new s t r k n x).1;
      next_refused = λ old new s t r k n x. (next_not does holds exact old new s t r k n x).1;
      note_refused = λ old new s t r k n x. (note_not does holds exact old new s t r k n x).1;
    }
