-- The message schedule in an array of 64 words, filled from the front.
-- Assumes nothing.
use Rattle.std.proofs.Common.{◌≡◌, ℕ, zero, suc, ◌+◌, ◌-◌, ◌<◌, ◌≤◌, List, [], ◌∷◌, ◌++◌, length, get_or, take, set, sym, refl, ap, ◌∙◌, ⊎_elim, not-suc-le-zero, add-one, arith, get_or-take, take-suc-set}
use Rattle.std.proofs.lemmas.List.{length_push, get_or_push, get_or_append_left}
use Rattle.std.proofs.lemmas.Bool.{cases_lt, lt-ltb}
use Rattle.digest.specs.Sha256.{Wt, longer, schedule}

-- a word of the schedule depends on words before it alone
Wt-take : (t : ℕ) (b w : List ℕ) → Wt t b (take t w) ≡ Wt t b w
unfolding Wt
Wt-take t b w =
    ⊎_elim
    (λ (h : t < 16). let e = lt-ltb t 16 h in rw e)
    (λ (h : 16 ≤ t).
    let e2 : t - 2 < t = omega arith in
    let e7 : t - 7 < t = omega arith in
    let e15 : t - 15 < t = omega arith in
    let e16 : t - 16 < t = omega arith in
    simp get_or-take)
    (cases_lt t 16)

length-schedule : (t : ℕ) (b : List ℕ) → length (schedule t b) ≡ t
unfolding schedule longer
length-schedule zero b = refl
length-schedule (suc t) b = length_push (schedule t b) (Wt t b (schedule t b)) ∙ add-one (length (schedule t b)) ∙ ap suc (length-schedule t b)

-- word t of a schedule of which more is known
schedule_at : (n t : ℕ) (b : List ℕ) → t < n → get_or (schedule n b) t 0 ≡ Wt t b (schedule t b)
unfolding schedule longer
schedule_at zero t b h = absurd (not-suc-le-zero h)
schedule_at (suc n) t b h =
    ⊎_elim
    (λ (below : t < n).
    let long : t < length (schedule n b) = rw length-schedule below in
    get_or_append_left (schedule n b) (Wt n b (schedule n b) ∷ []) 0 t long ∙ schedule_at n t b below)
    (λ (last : n ≤ t).
    let e : n ≡ t = omega arith in
    get_or_push (schedule n b) (Wt n b (schedule n b)) 0 t (length-schedule n b ∙ e) ∙ ap (λ (k : ℕ). Wt k b (schedule k b)) e)
    (cases_lt t n)

-- a word is filled in
pub filled_more : (b w filled : List ℕ) (t : ℕ) → t < 64 → length w ≡ 64 → take t w ≡ schedule t b → filled ≡ set w t (Wt t b w) → take (t + 1) filled ≡ schedule (t + 1) b
unfolding schedule longer
filled_more b w filled t below long so_far put =
    let inside : t < length w = omega arith in
    let same : Wt t b w ≡ Wt t b (schedule t b) = sym (Wt-take t b w) ∙ ap (Wt t b) so_far in
    rw (add-one, put, take-suc-set) (λ i. so_far i ++ (same i ∷ []))

-- the word that is filled in is the schedule's
pub filled_word : (b w : List ℕ) (t : ℕ) → t < 64 → take t w ≡ schedule t b → Wt t b w ≡ get_or (schedule 64 b) t 0
filled_word b w t below so_far = sym (Wt-take t b w) ∙ ap (Wt t b) so_far ∙ sym (schedule_at 64 t b below)
