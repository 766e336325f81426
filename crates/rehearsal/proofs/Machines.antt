-- The machines of a script, one after the other.
-- Assumes nothing.
use Rattle.std.proofs.Common.{◌≡◌, ◌≢◌, ℕ, zero, suc, ◌<◌, List, [], ◌∷◌, length, ap, sym, ◌∙◌, refl, arith, slice_set, subst, map, vec_items, Some, Option, Result}
use Rattle.std.proofs.lemmas.Option.{slice_get-map}
use Rattle.std.specs.Coded.{Coded-set, coded_list, coded_ℕ}
use Rattle.std.specs.List.{slice_get}
use Rattle.std.specs.Option.{option_map}
use Rattle.cutting.specs.declared.refusal.Refusal.{Refusal}
use Rattle.store.specs.declared.memory.Memory.{Memory}
use Rattle.days.specs.declared.done.Done.{Done}
use Rattle.days.specs.declared.machine.Machine.{Machine}
use Rattle.days.specs.Machines.{Work}
use Rattle.rehearsal.specs.declared.step.Act.{Act}
use Rattle.rehearsal.specs.declared.world.World.{World}
use Rattle.rehearsal.specs.Acts.{Acts}
use Rattle.rehearsal.specs.Numbering.{IsNumbered, machine_numbers}

pub get-set_same : {A : Type 0} (xs : List A) (i : ℕ) (x : A) → i < length xs → slice_get (slice_set xs i x) i ≡ Some x
get-set_same [] i x h = absurd (omega arith)
get-set_same (y ∷ ys) zero x h = refl
get-set_same (y ∷ ys) (suc i) x h = get-set_same ys i x (omega arith)

pub get-set_other : {A : Type 0} (xs : List A) (i j : ℕ) (x : A) → j ≢ i → slice_get (slice_set xs i x) j ≡ slice_get xs j
get-set_other [] i j x h = refl
get-set_other (y ∷ ys) zero zero x h = absurd (h refl)
get-set_other (y ∷ ys) zero (suc j) x h = refl
get-set_other (y ∷ ys) (suc i) zero x h = refl
get-set_other (y ∷ ys) (suc i) (suc j) x h = get-set_other ys i j x (λ e. h (ap suc e))

-- the number that stands at a place
at_place : (i n : ℕ) → slice_get machine_numbers i ≡ Some n → (n ≡ i) × (i < 4)
at_place zero n e = (cc, omega arith)
at_place (suc zero) n e = (cc, omega arith)
at_place (suc (suc zero)) n e = (cc, omega arith)
at_place (suc (suc (suc zero))) n e = (cc, omega arith)
at_place (suc (suc (suc (suc i)))) n e = absurd cc

pub number_at : (ms : List Machine) (i : ℕ) (m : Machine) → IsNumbered ms → slice_get ms i ≡ Some m → (m.number ≡ i) × (i < 4)
number_at ms i m h e = at_place i m.number (ap (λ ns. slice_get ns i) (sym h) ∙ slice_get-map (λ (m : Machine). m.number) ms i ∙ ap (option_map (λ (m : Machine). m.number)) e)

-- a world is the same with another proof that its machines have their numbers
pub same_world : (w : World) (n : IsNumbered (vec_items w.machines)) → record { heap = w.heap; store = w.store; machines = w.machines; sweeper = w.sweeper; numbered = n } ≡ w
same_world w n = λ k. record { heap = w.heap; store = w.store; machines = w.machines; sweeper = w.sweeper; numbered = Coded-set (coded_list coded_ℕ) (map (λ (m : Machine). m.number) (vec_items w.machines)) machine_numbers n w.numbered k }

-- what a machine does, under equal values
pub acts_equal : (act : Act) (i n : ℕ) (old x new y : Option Work) (s t : Memory) (a : Result Done Refusal) → n ≡ i → x ≡ old → y ≡ new → Acts act n x s a y t → Acts act i old s a new t
acts_equal act i n old x new y s t a e f g h = subst (λ (p : ℕ × Option Work × Option Work). Acts act p.0 p.1 s a p.2 t) (λ k. (e k, f k, g k)) h
