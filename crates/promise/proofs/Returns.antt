-- Days give back their files.
-- Assumes nothing.
use Rattle.std.proofs.Common.{◌≡◌, ℕ, inl, inr, List, Some, None, Option, Contains, ap, subst, refl, ◌∙◌, arith}
use Rattle.std.proofs.lemmas.List.{get_or-map, length-map}
use Rattle.digest.specs.declared.value.Digest.{Digest}
use Rattle.digest.specs.Digests.{digest_of}
use Rattle.store.specs.Asking.{Doing, IsExact}
use Rattle.store.specs.State.{State}
use Rattle.dayfile.specs.Stored.{HasFiles}
use Rattle.days.specs.Files.{LiesRight, WholeDays, WholeDaysAreSteps, entries}
use Rattle.days.specs.Promise.{file_entry}
use Rattle.days.specs.Sources.{Giving}
use Rattle.days.specs.System as machines
use Rattle.days.proofs.HadBack.{files_come_back}
use Rattle.sweeper.specs.Pieces.{IsRight, IsThere}
use Rattle.sweeper.specs.Sweepers.{Sweeping}
use Rattle.promise.specs.Back.{ListedFilesComeBack, MadeDaysComeBack}
use Rattle.promise.specs.Runs.{Run, onward, still}
use Rattle.promise.specs.System.{beside_sweeper, by_machine}
use Rattle.promise.proofs.Lasts.{days_last}
use Rattle.promise.proofs.Way.{joined}

-- what is right lies there
right_lies : (n : Digest) (o : Option (List ℕ)) → IsRight n o → (b : List ℕ) × (o ≡ Some b) × (digest_of b ≡ n)
right_lies n (Some b) h = (b, refl, h)
right_lies n None h = absurd h

lies_right : (s : State) (n : Digest) → IsThere s n → LiesRight s n
lies_right s n (inl h) = let (b, e, d) = right_lies n (s.place n) h in (b, inl e, d)
lies_right s n (inr h) = let (b, e, d) = right_lies n (s.aside n) h in (b, inr e, d)

pub listed_files_come_back : {S : Type 0} (does : Doing S) (holds : S → State) → IsExact holds does → ListedFilesComeBack does holds
listed_files_come_back does holds exact ms am v w reached run d es path file has c some s t a same x =
    let last = days_last ms am v reached w run d es has some in
    (files_come_back does holds exact).given d path file es s t a (subst (λ z. HasFiles z d es) same last.0) c (λ n h. lies_right (holds s) n (subst (λ z. IsThere z n) same (last.1 n h))) x

-- steps of the machines are steps
run_beside : (x : Sweeping) {n : ℕ} {v w : machines.World} → machines.Within n v w → Run (beside_sweeper v x) (beside_sweeper w x)
run_beside x machines.still = still
run_beside x (machines.onward r k) = onward (run_beside x r) (by_machine x k)

-- a file that was given is in the day
is_entry : (fs : List (List ℕ × List ℕ)) (f : List ℕ × List ℕ) → Contains fs f → Contains (entries fs) (file_entry f.0 f.1)
is_entry fs f (k, l, at) =
    let entry = λ (x : List ℕ × List ℕ). file_entry x.0 x.1 in
    (k, omega (arith, length-map fs entry, l), get_or-map entry fs k f (file_entry f.0 f.1) l ∙ ap entry at)

pub made_days_come_back : {S F : Type 0} (does : Doing S) (gives : Giving F) (holds : S → State) → IsExact holds does → WholeDays does gives holds → WholeDaysAreSteps does gives holds → MadeDaysComeBack does gives holds
made_days_come_back does gives holds exact whole steps ms am v reached i s t x y d new same h =
    let made = whole.made i _ new s t x y d h in
    let (k, named, fs, given, has) = made in
    let (n, run) = steps (record { store = v.store; makes = v.makes }) i s t x y _ new same h in (
      k,
      named,
      fs,
      given,
      has,
      λ w later some f c. listed_files_come_back does holds exact ms am _ w (joined reached (run_beside v.sweeper run)) later (record { machine = i; number = k }) (entries fs) f.0 f.1 has (is_entry fs f c) some,
    )
