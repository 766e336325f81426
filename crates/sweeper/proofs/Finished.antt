-- Whether every machine on the list has a day above its noted number.
-- Assumes nothing.
use Rattle.std.proofs.Common.{◌≡◌, ℕ, suc, ◌+◌, ◌-◌, ◌<◌, ◌⊎◌, inl, inr, ◌∙◌, true, false, Bool, Decides, is_some, IsSome, Ok, Err, ap, sym, subst, refl, arith}
use Rattle.cutting.specs.declared.refusal.Refusal.{Refusal}
use Rattle.store.specs.declared.day.DayName.{DayName}
use Rattle.store.specs.declared.sweep.Noted.{Noted}
use Rattle.store.specs.Asking.{Doing, IsExact}
use Rattle.store.specs.State.{State, most_machines}
use Rattle.sweeper.specs.Loops.{Loop}
use Rattle.sweeper.specs.Looking.{AllFinished, AndMachine, Finished, FinishedIfListed, HasDay, OrDay}
use Rattle.sweeper.specs.Pieces.{HasFinished}
use Rattle.sweeper.specs.Promise.{AllHaveFinished}
use Rattle.sweeper.specs.Sweepers.{noted_of}
use Rattle.sweeper.proofs.Absurd.{clash}
use Rattle.sweeper.proofs.Adding.{all_more, below_less, below_more}
use Rattle.sweeper.proofs.Reading.{Below, Reads, loop_alike}
use Rattle.sweeper.proofs.Told.{IsNoMemory, not_told, told_day, told_highest, told_machine}

-- after it the test tells whether it told so before or P is so; or whether both are
abbrev OrElse : Type 0 → Bool → Bool → Type 0
OrElse P u v = Decides v ((u ≡ true) ⊎ P)

abbrev AndAlso : Type 0 → Bool → Bool → Type 0
AndAlso P u v = Decides v ((u ≡ true) × P)

-- before the first go, and after one more
or_none : (P : ℕ → Type 0) (u : Bool) → OrElse (Below 0 P) u u
or_none P u = (λ e. inl e, λ x. back x)
  where
    back : (u ≡ true) ⊎ Below 0 P → u ≡ true
    back (inl e) = e
    back (inr (k, l, x)) = absurd (omega arith)

or_more : (P : ℕ → Type 0) (k : ℕ) (u w v : Bool) → OrElse (Below k P) u w → OrElse (P k) w v → OrElse (Below (suc k) P) u v
or_more P k u w v a b = (λ e. to (b.0 e), λ x. back x)
  where
    early : (u ≡ true) ⊎ Below k P → (u ≡ true) ⊎ Below (suc k) P
    early (inl e) = inl e
    early (inr x) = inr (below_more P k (inl x))

    to : (w ≡ true) ⊎ P k → (u ≡ true) ⊎ Below (suc k) P
    to (inl e) = early (a.0 e)
    to (inr x) = inr (below_more P k (inr x))

    late : Below k P ⊎ P k → v ≡ true
    late (inl x) = b.1 (inl (a.1 (inr x)))
    late (inr x) = b.1 (inr x)

    back : (u ≡ true) ⊎ Below (suc k) P → v ≡ true
    back (inl e) = b.1 (inl (a.1 (inl e)))
    back (inr x) = late (below_less P k x)

and_more : (P : ℕ → Type 0) (k : ℕ) (u w v : Bool) → AndAlso ((i : ℕ) → i < k → P i) u w → AndAlso (P k) w v → AndAlso ((i : ℕ) → i < suc k → P i) u v
and_more P k u w v a b =
    (λ e. let c = b.0 e in let d = a.0 c.0 in (d.0, all_more P k d.1 c.1), λ x. b.1 (a.1 (x.0, λ i l. x.1 i (omega arith)), x.1 k (omega arith)))

module _ {S : Type 0} (does : Doing S) (holds : S → State) (exact : IsExact holds does) (z : State) where
  -- whether there is such a day
  has_day : (d : DayName) (s t : S) (b : Bool) → holds s ≡ z → HasDay does d s (Ok b) t → (holds t ≡ z) × (b ≡ is_some (z.days d))
  has_day d s t b h (x, asked, e) = let k = told_day does holds exact z s t h d x asked in (k.0, e ∙ ap is_some (sym k.1))

  -- a day of this machine above the number
  abbrev DayAbove : ℕ → ℕ → ℕ → Type 0
  DayAbove i noted k = IsSome (z.days (record { machine = i; number = noted + k + 1 }))

  -- whether one was found already, or is there; and whether one of these is
  or_day : (i noted k : ℕ) → Reads holds z (OrDay does i noted k) (OrElse (DayAbove i noted k)) IsNoMemory
  or_day i noted k =
      record { done = done; stopped = λ s t u v r h x. not_told does holds exact z s t h _ r refl x.1 }
    where
      here : (u v : Bool) → u ≡ false → v ≡ is_some (z.days (record { machine = i; number = noted + k + 1 })) → (u ≡ true) ⊎ DayAbove i noted k → v ≡ true
      here u v f e (inl g) = clash g f
      here u v f e (inr x) = e ∙ x

      done : (s t : S) (u v : Bool) → holds s ≡ z → OrDay does i noted k s u (Ok tt) t v → (holds t ≡ z) × OrElse (DayAbove i noted k) u v
      done s t u v h (inl (e, f, g)) = (ap holds g ∙ h, (λ _. inl e, λ _. f))
      done s t u v h (inr (f, x)) = let a = has_day _ s t v h x in (a.0, (λ e. inr (sym a.1 ∙ e), here u v f a.1))

  or_days : (i noted n : ℕ) → Reads holds z (Loop (OrDay does i noted) n) (OrElse (Below n (DayAbove i noted))) IsNoMemory
  or_days i noted n =
      loop_alike holds z (OrDay does i noted) (λ k. OrElse (DayAbove i noted k)) IsNoMemory (λ k. OrElse (Below k (DayAbove i noted)))
      (or_none (DayAbove i noted)) (or_more (DayAbove i noted)) n (λ k l. or_day i noted k)

  -- whether a machine has one up to its highest, or why that is not told
  finished : (i noted : ℕ) (s t : S) (b : Bool) → holds s ≡ z → Finished does i noted s (Ok b) t → (holds t ≡ z) × Decides b (HasFinished z i noted)
  finished i noted s t b e (h, m, x, y) =
      let a = told_highest does holds exact z s m e i h x in
      let c = (or_days i noted (h - noted)).done m t false b a.0 y in
      (c.0, (λ f. to h a.1 (c.1.0 f), λ g. c.1.1 (inr (back h a.1 g))))
    where
      to : (h : ℕ) → z.highest i ≡ h → (false ≡ true) ⊎ Below (h - noted) (DayAbove i noted) → HasFinished z i noted
      to h f (inl g) = clash g refl
      to h f (inr (k, l, x)) = (noted + k + 1, omega arith, omega arith, x)

      back : (h : ℕ) → z.highest i ≡ h → HasFinished z i noted → Below (h - noted) (DayAbove i noted)
      back h f (n, l, j, x) =
          let g : n ≡ noted + (n - noted - 1) + 1 = omega arith in
          (n - noted - 1, omega arith, subst (λ k. IsSome (z.days (record { machine = i; number = k }))) g x)

  not_finished : (i noted : ℕ) (s t : S) (r : Refusal) → holds s ≡ z → Finished does i noted s (Err r) t → (holds t ≡ z) × IsNoMemory r
  not_finished i noted s t r e (inl x) = not_told does holds exact z s t e _ r refl x
  not_finished i noted s t r e (inr (h, m, v, x, y)) = (or_days i noted (h - noted)).stopped m t false v r (told_highest does holds exact z s m e i h x).0 y

  -- a machine on the list has
  abbrev Has : ℕ → ℕ → Type 0
  Has i noted = z.machines i ≡ true → HasFinished z i noted

  -- so for one that is on the list
  if_listed : (i noted : ℕ) (s t : S) (b : Bool) → holds s ≡ z → FinishedIfListed does i noted s (Ok b) t → (holds t ≡ z) × Decides b (Has i noted)
  if_listed i noted s t b e (inl (x, f)) = let a = told_machine does holds exact z s t e i false x in (a.0, (λ _ g. clash g a.1, λ _. f))
  if_listed i noted s t b e (inr (m, x, y)) =
      let a = told_machine does holds exact z s m e i true x in
      let c = finished i noted m t b a.0 y in
      (c.0, (λ f _. c.1.0 f, λ g. c.1.1 (g a.1)))

  not_if_listed : (i noted : ℕ) (s t : S) (r : Refusal) → holds s ≡ z → FinishedIfListed does i noted s (Err r) t → (holds t ≡ z) × IsNoMemory r
  not_if_listed i noted s t r e (inl x) = not_told does holds exact z s t e _ r refl x
  not_if_listed i noted s t r e (inr (m, x, y)) = not_finished i noted m t r (told_machine does holds exact z s m e i true x).0 y

  -- whether all before it and this one have; and whether all have
  and_machine : (h : Noted) (i : ℕ) → Reads holds z (AndMachine does h i) (AndAlso (Has i (noted_of h i))) IsNoMemory
  and_machine h i = record { done = done; stopped = λ s t u v r e x. not_if_listed i (noted_of h i) s t r e x.1 }
    where
      done : (s t : S) (u v : Bool) → holds s ≡ z → AndMachine does h i s u (Ok tt) t v → (holds t ≡ z) × AndAlso (Has i (noted_of h i)) u v
      done s t u v e (inl (f, g, same)) = (ap holds same ∙ e, (λ k. clash k g, λ k. clash k.0 f))
      done s t u v e (inr (f, x)) = let a = if_listed i (noted_of h i) s t v e x in (a.0, (λ k. (f, a.1.0 k), λ k. a.1.1 k.1))

  all_finished : (h : Noted) → Reads holds z (AllFinished does h) (AndAlso (AllHaveFinished z h)) IsNoMemory
  all_finished h =
      loop_alike holds z (AndMachine does h) (λ i. AndAlso (Has i (noted_of h i))) IsNoMemory (λ n. AndAlso ((i : ℕ) → i < n → Has i (noted_of h i)))
      (λ u. (λ e. (e, λ i l. absurd (omega arith)), λ x. x.0)) (and_more (λ i. Has i (noted_of h i))) most_machines (λ i l. and_machine h i)

  -- what is told, or why nothing is
  pub asks_finished : (h : Noted) (s t : S) (b : Bool) → holds s ≡ z → AllFinished does h s true (Ok tt) t b → (holds t ≡ z) × Decides b (AllHaveFinished z h)
  asks_finished h s t b e x = let a = (all_finished h).done s t true b e x in (a.0, (λ f. (a.1.0 f).1, λ g. a.1.1 (refl, g)))

  pub asks_not : (h : Noted) (s t : S) (b : Bool) (r : Refusal) → holds s ≡ z → AllFinished does h s true (Err r) t b → (holds t ≡ z) × IsNoMemory r
  asks_not h s t b r e x = (all_finished h).stopped s t true b r e x
