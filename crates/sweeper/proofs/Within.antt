-- Each step of the sweeper over an exact store is a step of the system, or two, or none.
-- Assumes nothing.
use Rattle.std.proofs.Common.{◌≡◌, inl, inr, ◌∙◌, List, [], ◌∷◌, Some, Ok, Err, Result, ap, sym, refl, subst}
use Rattle.cutting.specs.declared.refusal.Refusal.{Refusal}
use Rattle.digest.specs.declared.value.Digest.{Digest}
use Rattle.store.specs.Asking.{Doing, IsExact}
use Rattle.store.specs.declared.sweep.Sweep.TheVariants as sweep
use Rattle.store.specs.Effects.{with_sweep}
use Rattle.store.specs.State.{State}
use Rattle.store.proofs.Exact.{kept, put_aside}
use Rattle.sweeper.specs.declared.done.Done.{Done}
use Rattle.sweeper.specs.declared.done.Done.TheVariants as done
use Rattle.sweeper.specs.declared.sweeper.Sweeper.{Sweeper}
use Rattle.sweeper.specs.declared.turns.Turns.{Turns}
use Rattle.sweeper.specs.Promise.{MayDecide}
use Rattle.sweeper.specs.Steps.{ComesUp, Decides, FindsTurns, Looks, Nexts, Notes, PutsAside, PutsFirst, RestsIfDone, TakesTurn, Turn}
use Rattle.sweeper.specs.Sweepers.{Sweeping, ends, puts, sweeping, turns_of, up, waits}
use Rattle.sweeper.specs.System.{Decided, World, decides, decides_anew, looks, notes, puts_aside, stops}
use Rattle.sweeper.specs.Within.{AreSteps, Within, still}
use Rattle.sweeper.proofs.Found as found
use Rattle.sweeper.proofs.Moves.{enlists, first_of_list, leads, more, moves, stays, takes, then_rests, world}
use Rattle.sweeper.proofs.Told.{unmoved}

module _ {S : Type 0} (does : Doing S) (holds : S → State) (exact : IsExact holds does) where
  -- it looks
  looks_run : (old new : Sweeping) (s t : S) (a : Result Done Refusal) → Looks does old s a new t → Within 1 (world (holds s) old) (world (holds t) new)
  looks_run old new s t (Ok (done.Looked k)) (left, x, e, n) =
      let a = found.finds_unused does holds exact old s t left x in
      let w = world (holds s) old in
      moves w w (holds s) (holds t) (puts left) new still (looks w left a.1 a.2) (sym a.0) e
  looks_run old new s t (Err r) (e, x) = stays _ _ old new (found.finds_none does holds exact old s t r x).0 e
  looks_run old new s t (Ok other) h = absurd h

  -- it puts the first piece aside
  puts_first : (left more : List Digest) (old new : Sweeping) (s t : S) (a : Result Done Refusal) → old ≡ puts left → new ≡ puts more → PutsFirst does left s a more t → Within 2 (world (holds s) old) (world (holds t) new)
  puts_first left more old new s t (Ok (done.PutAside n)) e f (g, m, b, x, y) =
      let k : old ≡ puts (n ∷ more) = e ∙ ap puts g in
      let l = enlists does holds exact s m n more old k x in
      moves _ (world (holds m) old) _ (holds t) (puts more) new l.0 (puts_aside (world (holds m) old) n more k l.1) (put_aside _ _ n b (exact m t _ _ y)).1 f
  puts_first left more old new s t (Err r) e f (g, inl (none, q, same)) = stays _ _ old new (ap holds same) (f ∙ ap puts g ∙ sym e)
  puts_first left more old new s t (Err r) e f (g, inr (n, first, inl x)) = stays _ _ old new (unmoved does holds exact s t _ r x) (f ∙ ap puts g ∙ sym e)
  puts_first left others old new s t (Err r) e f (g, inr (n, first, inr (m, x, y))) =
      let k = first_of_list left n first in
      let l = enlists does holds exact s m n k.0 old (e ∙ ap puts k.1) x in
      leads _ _ (holds t) old new (more l.0) (unmoved does holds exact m t _ r y) (f ∙ ap puts g ∙ sym e)
  puts_first left more old new s t (Ok other) e f h = absurd h

  puts_run : (old new : Sweeping) (s t : S) (a : Result Done Refusal) → PutsAside does old s a new t → Within 2 (world (holds s) old) (world (holds t) new)
  puts_run old new s t a (inl (p, q, e, same)) = stays _ _ old new (ap holds same) e
  puts_run old new s t a (inr (left, more, e, f, x)) = puts_first left more old new s t a e f x

  -- it notes
  notes_run : (old new : Sweeping) (s t : S) (a : Result Done Refusal) → Notes does old s a new t → Within 1 (world (holds s) old) (world (holds t) new)
  notes_run old new s t (Ok done.Noted) (h, x, e) =
      let a = found.notes does holds exact old s t h x in
      let w = world (holds s) old in
      moves w w _ (holds t) (waits h) new still (notes w h a.0 a.1) a.2 e
  notes_run old new s t (Err r) (e, x) = stays _ _ old new (found.notes_none does holds exact old s t r x).0 e
  notes_run old new s t (Ok other) h = absurd h

  -- a decision, after which it ends its sweep
  decided : (old : Sweeping) (s t : S) (turns : Turns) → FindsTurns does old s (Ok turns) t → Within 1 (world (holds s) old) (world (holds t) (ends turns.back.keys turns.away.keys))
  decided old s t turns x = let a = found.finds_turns does holds exact old s t turns x in go a.0 a.1 a.2
    where
      w : World
      w = world (holds s) old

      go : MayDecide (holds s) old → Decided (holds s) turns.back.keys turns.away.keys → with_sweep sweep.Ends (holds s) ≡ holds t → Within 1 (world (holds s) old) (world (holds t) (ends turns.back.keys turns.away.keys))
      go (inl (h, e, f)) d k = moves w w _ (holds t) (ends turns.back.keys turns.away.keys) _ still (decides w h turns.back.keys turns.away.keys e f d) k refl
      go (inr e) d k = moves w w _ (holds t) (ends turns.back.keys turns.away.keys) _ still (decides_anew w turns.back.keys turns.away.keys e d) k refl

  -- so it decides, and then it may rest
  decides_run : (old new : Sweeping) (s t : S) (a : Result Done Refusal) → Decides does old s a new t → Within 2 (world (holds s) old) (world (holds t) new)
  decides_run old new s t (Ok (done.Decided b a)) (turns, m, x, y, e, f) = then_rests does holds exact _ (turns_of turns) m t (Ok tt) new (decided old s m turns x) y
  decides_run old new s t (Err r) (inl (e, x)) = stays _ _ old new (found.finds_no_turns does holds exact old s t r x).0 e
  decides_run old new s t (Err r) (inr (turns, m, x, y)) = then_rests does holds exact _ (turns_of turns) m t (Err r) new (decided old s m turns x) y
  decides_run old new s t (Ok other) h = absurd h

  -- a turn, and then it may rest
  turn : (old : List Digest × List Digest) (new : Sweeping) (s t : S) (d : Done) → (turns : List Digest × List Digest) × (m : S) × TakesTurn does old s (Ok (Some d)) turns m × RestsIfDone does turns m (Ok tt) new t →
      Within 2 (world (holds s) (ends old.0 old.1)) (world (holds t) new)
  turn old new s t d (turns, m, x, y) = then_rests does holds exact _ turns m t (Ok tt) new (takes does holds exact old turns s m (Some d) x) y

  turns_run : (old : List Digest × List Digest) (new : Sweeping) (s t : S) (a : Result Done Refusal) → Turn does old s a new t → Within 2 (world (holds s) (ends old.0 old.1)) (world (holds t) new)
  turns_run old new s t (Ok done.Rested) (e, x) =
      then_rests does holds exact _ ([], []) s t (Ok tt) new (stays _ _ _ _ refl (sym (ap (λ (y : List Digest × List Digest). ends y.0 y.1) e))) x
  turns_run old new s t (Err r) (inl (e, (f, n, inl x))) = stays _ _ _ new (unmoved does holds exact s t _ r x) e
  turns_run old new s t (Err r) (inl (e, (f, n, inr x))) = stays _ _ _ new (unmoved does holds exact s t _ r x) e
  turns_run old new s t (Err r) (inr (d, turns, m, x, y)) = then_rests does holds exact _ turns m t (Err r) new (takes does holds exact old turns s m d x) y
  turns_run old new s t (Ok other) h = turn old new s t other h

  nexts_run : (old new : Sweeping) (s t : S) (a : Result Done Refusal) → Nexts does old s a new t → Within 2 (world (holds s) old) (world (holds t) new)
  nexts_run old new s t a (inl (p, q, e, same)) = stays _ _ old new (ap holds same) e
  nexts_run old new s t a (inr (turns, e, x)) = subst (λ o. Within 2 (world (holds s) o) (world (holds t) new)) (sym e) (turns_run turns new s t a x)

  -- it comes up, after a stop
  comes_up_run : (old : Sweeping) (s t : S) (w : Sweeper) → ComesUp does s (Ok w) t → Within 1 (world (holds s) old) (world (holds t) (sweeping w))
  comes_up_run old s t w (x, asked, e) =
      let k = kept _ _ x (exact s t _ _ asked) in
      let u = world (holds s) old in
      moves u u (holds s) (holds t) (up (holds s).sweep) (sweeping w) still (stops u) (sym k.0) (e ∙ ap up (sym k.1))

-- and so are all steps
pub are_steps : {S : Type 0} (does : Doing S) → AreSteps does
are_steps does =
    record {
      looks = looks_run does;
      puts_aside = puts_run does;
      notes = notes_run does;
      decides = decides_run does;
      nexts = nexts_run does;
      comes_up = comes_up_run does;
    }
