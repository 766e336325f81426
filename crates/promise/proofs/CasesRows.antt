-- The worked cases, one after the other: what the sweeper finds on the way; the rest computes.
-- Assumes nothing.
use Rattle.std.proofs.Common.{◌≡◌, inl, ℕ, zero, suc, ◌<◌, ◌≤◌, arith, true, List, [], ◌∷◌, ◌++◌, drop, length, refl}
use Rattle.digest.specs.declared.value.Digest.{Digest}
use Rattle.digest.specs.Digests.{digest_of}
use Rattle.store.specs.declared.sweep.Noted.{Noted}
use Rattle.store.specs.declared.sweep.Sweep.TheVariants as kept
use Rattle.store.specs.Effects.{with_sweep}
use Rattle.store.specs.State.{most_in_piece, same_name}
use Rattle.dayfile.specs.Limits.{AreFiles}
use Rattle.sweeper.specs.Sweepers.{puts, rests, waits}
use Rattle.promise.specs.Cases.{Holds, Line, Part, add, begin, break, case_a, case_b, case_b_raised, case_c, case_d, case_e, empty_day, find, finishes, found_first, go, let_go, lines, name, one_piece, played, raise, stop, write}
use Rattle.promise.specs.System.{World, start}
use Rattle.promise.proofs.CasesForms.{AddAll, Files, Formed, formed, one_file, passes, to_files}
use Rattle.promise.proofs.Forms.{are_no_files}
use Rattle.promise.proofs.Names.{tests}
use Rattle.promise.proofs.CasesPlay.{Checks, Playable, after, holds, one_less}
use Rattle.promise.proofs.CasesSweeps.{Aside, InPlace, Unused, Used, aside_plays, aside_shows, away_plays, away_shows, back_plays, back_shows, day_has, look_none, looked_none, put, same}

ruleset keep = (arith, tests)

-- no number is above one that is the highest
not_above : {P : ℕ → Type 0} {a b : ℕ} → a ≡ b → ((k : ℕ) × (a < k) × (k ≤ b) × P k) → ⊥
not_above e (k, l, u, t) = omega arith

-- nor is one that has a day, where 2 and 3 are all that are above and have none
no_day : {P : ℕ → Type 0} {a b : ℕ} → a ≡ 1 → b ≤ 3 → (P 2 → ⊥) → (P 3 → ⊥) → ((k : ℕ) × (a < k) × (k ≤ b) × P k) → ⊥
no_day e m f g (zero, l, u, t) = omega arith
no_day e m f g (suc zero, l, u, t) = omega arith
no_day e m f g (suc (suc zero), l, u, t) = f t
no_day e m f g (suc (suc (suc zero)), l, u, t) = g t
no_day e m f g (suc (suc (suc (suc k))), l, u, t) = omega arith

module _ (p : List ℕ) (least : 1 ≤ length p) (few : length p ≤ most_in_piece) where
  itself : same_name (digest_of p) (digest_of p) ≡ true
  itself = same (digest_of p)

  -- the world after a day of machine i has the piece and is let go; and after machine 0 then found it
  abbrev gone : ℕ → World
  gone i = after (let_go i p) (start (0 ∷ 1 ∷ []))

  abbrev found : World
  found = after (begin 0 ∷ find 0 p ∷ add 0 (one_piece p) ∷ []) (gone 1)

  -- the piece is a day's only file
  one : AreFiles (one_piece p ∷ [])
  one = one_file p least few

  files : Files (λ n. n ≡ digest_of p) (one_piece p ∷ [])
  files = to_files _ one (λ n h. grind keep)

  -- the day that is let go was the only one; and no day that is made after it, or under way, has another piece
  gone_formed : (P : Digest → Type 0) → Formed P (gone 0) × Formed P (gone 1)
  gone_formed P = (record { days = λ d b e. grind keep; works = λ i c e. grind keep }, record { days = λ d b e. grind keep; works = λ i c e. grind keep })

  found_formed : Formed (λ n. n ≡ digest_of p) found
  found_formed = formed _ (begin 0 ∷ find 0 p ∷ add 0 (one_piece p) ∷ []) (gone 1) (files, tt) (gone_formed _).1

  put_formed : (ls : List Line) → AddAll (λ n. n ≡ digest_of p) ls (put p found rests) → Formed (λ n. n ≡ digest_of p) (after ls (put p found rests))
  put_formed ls a = formed _ ls (put p found rests) a (record { days = found_formed.days; works = found_formed.works })

  -- the world where the sweeper waits, after these lines, and after it noted this
  abbrev waiting : Noted → World → World
  waiting h w = record w { store = with_sweep (kept.Waits h) w.store; sweeper = waits h }

  -- machine 0 makes a day with the piece again, and machine 1 one of no pieces
  abbrev again : List Line
  again = begin 0 ∷ write 0 p ∷ add 0 (one_piece p) ∷ finishes 0 ++ empty_day 1

  pub row_a : Holds (played (case_a p))
  row_a =
      holds (case_a p)
      (refl, few, (rw itself, (refl, one), aside_plays p (gone 0) true (drop 6 (case_a p)) refl looks refl refl (refl, λ i. grind keep, (refl, few, (rw itself, (refl, one), back_plays p (end _) true refl refl (decides _))))))
      (
      aside_shows p (gone 0) (drop 6 (case_a p)) looks
      (λ left h n. let e = n 1 (omega arith) in (rw itself (λ g. absurd cc), ((one, refl), (rw itself, (rw itself, ((h, refl, 1, omega arith, refl, not_above e), back_shows p (end h) (decides h)))))))
      )
    where
      looks : InPlace p (gone 0).store
      looks = record { only = record { place = λ n k. grind keep; aside = λ n k. grind keep; days = (gone_formed _).0.days }; listed = inl (0, omega arith, rw itself); place = rw itself; unused = passes (λ n. ⊥) _ (gone_formed _).0.days _ }

      end : Noted → World
      end h = waiting h (after again (put p (gone 0) rests))

      back_formed : Formed (λ n. n ≡ digest_of p) (after again (put p (gone 0) rests))
      back_formed = formed _ again (put p (gone 0) rests) (files, tt) (record { days = (gone_formed _).0.days; works = (gone_formed _).0.works })

      decides : (h : Noted) → Used p (end h).store
      decides h = record { only = record { place = λ n k. grind keep; aside = λ n k. grind keep; days = back_formed.days }; own = rw itself; aside = rw itself; used = day_has p 0 2 (omega arith) (omega arith) (omega arith) (one, refl) }

  -- cases that begin with what was found
  found_holds : (others : List Part) → Playable true (lines others) (put p found (puts [])) → ((left : List Digest) → Checks others (put p found (one_less (puts left)))) → Holds (played (found_first p ++ others))
  found_holds others a b = holds (found_first p ++ others) (refl, few, (rw itself, (refl, one), (refl, (few, rw itself), (refl, (refl, one), aside_plays p found true others refl looks refl refl a)))) (rw itself, λ e. aside_shows p found others looks b)
    where
      looks : InPlace p found.store
      looks = record { only = record { place = λ n k. grind keep; aside = λ n k. grind keep; days = found_formed.days }; listed = inl (1, omega arith, rw itself); place = rw itself; unused = passes (λ n. ⊥) _ (gone_formed _).1.days _ }

  -- the day of machine 0 that has the piece has this number, and is found
  abbrev waits_for : Noted → List Line → World
  waits_for h ls = waiting h (after ls (put p found rests))

  pub row_b : Holds (played (case_b p))
  row_b =
      found_holds (drop 8 (case_b p))
      (refl, λ i. grind keep, back_plays p (end _) true refl refl (decides _))
      (λ left h n. let e = n 1 (omega arith) in ((h, refl, 1, omega arith, refl, not_above e), ((one, refl), ((h, refl, 1, omega arith, refl, not_above e), back_shows p (end h) (decides h)))))
    where
      end : Noted → World
      end h = waits_for h (finishes 0 ++ empty_day 1)

      decides : (h : Noted) → Used p (end h).store
      decides h = record { only = record { place = λ n k. grind keep; aside = λ n k. grind keep; days = (put_formed (finishes 0 ++ empty_day 1) tt).days }; own = rw itself; aside = rw itself; used = day_has p 0 1 (omega arith) (omega arith) (omega arith) (one, refl) }

  pub row_b_raised : Holds (played (case_b_raised p))
  row_b_raised =
      found_holds (drop 8 (case_b_raised p))
      (refl, λ i. grind keep, back_plays p (end _) true refl refl (decides _))
      (λ left h n. let e = n 0 (omega arith) in ((one, refl), ((h, refl, 0, omega arith, refl, not_above e), back_shows p (end h) (decides h))))
    where
      end : Noted → World
      end h = after (name 0 ∷ empty_day 1 ++ empty_day 0) (waits_for h (raise 0 ∷ []))

      decides : (h : Noted) → Used p (end h).store
      decides h = record { only = record { place = λ n k. grind keep; aside = λ n k. grind keep; days = (put_formed (raise 0 ∷ name 0 ∷ empty_day 1 ++ empty_day 0) tt).days }; own = rw itself; aside = rw itself; used = day_has p 0 1 (omega arith) (omega arith) (omega arith) (one, refl) }

  pub row_c : Holds (played (case_c p))
  row_c =
      found_holds (drop 8 (case_c p))
      (refl, λ i. grind keep, away_plays p (end _) true refl refl (decides _))
      (λ left h n. let e = n 0 (omega arith) in ((h, refl, 0, omega arith, refl, not_above e), ((are_no_files, refl), away_shows p (end h) (decides h))))
    where
      end : Noted → World
      end h = waits_for h (break 0 ∷ empty_day 1 ++ empty_day 0)

      away_formed : Formed (λ n. ⊥) (after (break 0 ∷ empty_day 1 ++ empty_day 0) (put p found rests))
      away_formed = formed _ (empty_day 1 ++ empty_day 0) (after (break 0 ∷ []) (put p found rests)) tt (record { days = (gone_formed _).1.days; works = λ i c e. grind keep })

      decides : (h : Noted) → Unused p (end h).store
      decides h = record { only = record { place = λ n k. grind keep; aside = λ n k. grind keep; days = (put_formed (break 0 ∷ empty_day 1 ++ empty_day 0) tt).days }; own = rw itself; place = rw itself; aside = rw itself; unused = passes (λ n. ⊥) _ away_formed.days _ }

  -- machine 0 finishes its day, and machine 1 does so at last
  abbrev tries : List Line
  tries = finishes 0 ++ begin 1 ∷ raise 1 ∷ break 1 ∷ empty_day 1 ++ go (record { machine = 1; number = 3 }) ∷ empty_day 1

  pub row_d : Holds (played (case_d p))
  row_d =
      found_holds (drop 8 (case_d p))
      (refl, λ i. grind keep, back_plays p (end _) true refl refl (decides _))
      (λ left h n. let e = n 1 (omega arith) in (
        (h, refl, 1, omega arith, refl, not_above e),
        ((h, refl, 1, omega arith, refl, not_above e), ((h, refl, 1, omega arith, refl, no_day e (omega arith) (λ t. cc) (λ t. cc)), ((h, refl, 1, omega arith, refl, no_day e (omega arith) (λ t. cc) (λ t. cc)), ((h, refl, 1, omega arith, refl, no_day e (omega arith) (λ t. cc) (λ t. cc)), back_shows p (end h) (decides h))))),
      ))
    where
      end : Noted → World
      end h = waits_for h tries

      decides : (h : Noted) → Used p (end h).store
      decides h = record { only = record { place = λ n k. grind keep; aside = λ n k. grind keep; days = (put_formed tries tt).days }; own = rw itself; aside = rw itself; used = day_has p 0 1 (omega arith) (omega arith) (omega arith) (one, refl) }

  pub row_e : Holds (played (case_e p))
  row_e =
      found_holds (drop 8 (case_e p))
      (refl, [], look_none p looks, (refl, λ i. grind keep, back_plays p (end _) true refl refl (decides _)))
      (λ left. ((one, refl), (rw itself, (rw itself, (refl, λ found l. ((found, refl, looked_none p looks found l), λ h n. back_shows p (end h) (decides h)))))))
    where
      looks : Aside p (after (stop ∷ finishes 0) (put p found rests)).store
      looks = record { only = record { place = λ n k. grind keep; aside = λ n k. grind keep; days = (put_formed (stop ∷ finishes 0) tt).days }; no_place = rw itself; aside = rw itself }

      end : Noted → World
      end h = waits_for h (stop ∷ finishes 0 ++ empty_day 0 ++ empty_day 1)

      decides : (h : Noted) → Used p (end h).store
      decides h = record { only = record { place = λ n k. grind keep; aside = λ n k. grind keep; days = (put_formed (stop ∷ finishes 0 ++ empty_day 0 ++ empty_day 1) tt).days }; own = rw itself; aside = rw itself; used = day_has p 0 1 (omega arith) (omega arith) (omega arith) (one, refl) }
