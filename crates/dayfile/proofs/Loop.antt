-- Reading several of the same one after the other, as a loop does.
-- Assumes nothing.
use Rattle.std.proofs.Common.{◌≡◌, ℕ, suc, ◌-◌, ◌+◌, ◌≤◌, ◌<◌, List, [], ◌∷◌, ◌++◌, Option, Some, None, refl, sym, ap, subst, ◌∙◌, append_assoc, arith}
use Rattle.std.proofs.lemmas.List.{append-nil}
use Rattle.cutting.specs.declared.refusal.Refusal.{Refusal}
use Rattle.cutting.specs.declared.refusal.Refusal.TheVariants.{BadDay, NoMemory}
use Rattle.dayfile.specs.Entries.{Entry}
use Rattle.dayfile.specs.Limits.{AreFiles}
use Rattle.dayfile.specs.Reading.{◌>>=◌, Fails, bad_day, many_at, entry_at}
use Rattle.dayfile.specs.Adding.{IsNotAdded, Misfits}
use Rattle.dayfile.proofs.Rising.{misfits}
use Rattle.dayfile.proofs.Fields.{bind_some, some_is}

-- a refusal for one reason is one for another that follows
pub Fails-then : (r : Refusal) (P Q : Type 0) → (P → Q) → Fails r P → Fails r Q
Fails-then NoMemory P Q f h = tt
Fails-then BadDay P Q f h = f h
Fails-then other P Q f h = absurd h

module _ {A : Type 0} (one : List ℕ → Option (A × List ℕ)) where
  -- what was read before, and what is still read
  abbrev pub with_front : List A → Option (List A × List ℕ) → Option (List A × List ℕ)
  with_front front read = read >>= λ x. Some (front ++ x.0, x.1)

  regroup : (front : List A) (n : A) (read : Option (List A × List ℕ)) → with_front front (read >>= λ x. Some (n ∷ x.0, x.1)) ≡ with_front (front ++ n ∷ []) read
  regroup front n (Some x) = ap (λ (ns : List A). Some (ns, x.1)) (simp append_assoc)
  regroup front n None = refl

  pub goes_on : (front : List A) (count i : ℕ) (bytes : List ℕ) (n : A) (after : List ℕ) (total : Option (List A × List ℕ)) → i < count → one bytes ≡ Some (n, after)
      → with_front front (many_at one (count - i) bytes) ≡ total → with_front (front ++ n ∷ []) (many_at one (count - (i + 1)) after) ≡ total
  unfolding many_at
  goes_on front count i bytes n after total lt h so_far =
      let k : count - i ≡ suc (count - (i + 1)) = omega arith in
      let next : with_front front (many_at one (count - i) bytes) ≡ with_front (front ++ n ∷ []) (many_at one (count - (i + 1)) after) = rw (k, h) (regroup front n (many_at one (count - (i + 1)) after)) in
      sym next ∙ so_far

  pub ends : (front : List A) (count i : ℕ) (bytes : List ℕ) (total : Option (List A × List ℕ)) → i < count → one bytes ≡ None → with_front front (many_at one (count - i) bytes) ≡ total → total ≡ None
  unfolding many_at
  ends front count i bytes total lt h so_far =
      let k : count - i ≡ suc (count - (i + 1)) = omega arith in
      let none : with_front front (many_at one (count - i) bytes) ≡ None = rw (k, h) refl in
      sym so_far ∙ none

  pub is_done : (front : List A) (count i : ℕ) (bytes : List ℕ) (total : Option (List A × List ℕ)) → count ≤ i → with_front front (many_at one (count - i) bytes) ≡ total → total ≡ Some (front, bytes)
  unfolding many_at
  is_done front count i bytes total le so_far =
      let k : count - i ≡ 0 = omega arith in
      let last : with_front front (many_at one (count - i) bytes) ≡ Some (front, bytes) = rw k (ap (λ (ns : List A). Some (ns, bytes)) (append-nil front)) in
      sym so_far ∙ last

  -- what is read in the end has what was read so far at its front
  pub has_front : (front : List A) (n : ℕ) (bytes : List ℕ) (all : List A) (rest : List ℕ) → with_front front (many_at one n bytes) ≡ Some (all, rest) → (more : List A) × (all ≡ front ++ more)
  has_front front n bytes all rest e =
      let b = bind_some (many_at one n bytes) (λ x. Some (front ++ x.0, x.1)) (all, rest) e in
      (b.0.0, sym (ap (λ x. x.0) (some_is (front ++ b.0.0, b.0.1) (all, rest) b.2)))

-- of what is read no day can be made
abbrev pub NoDay : Option (List Entry × List ℕ) → Type 0
NoDay read = (es : List Entry) (rest : List ℕ) → read ≡ Some (es, rest) → AreFiles es → ⊥

-- where a file is not read
pub no_entry : (front : List Entry) (count i : ℕ) (bytes : List ℕ) (total : Option (List Entry × List ℕ)) → i < count → entry_at bytes ≡ None → with_front entry_at front (many_at entry_at (count - i) bytes) ≡ total → NoDay total
no_entry front count i bytes total lt h so_far es rest e is =
    let none = ends entry_at front count i bytes total lt h so_far in
    absurd cc

-- where a file may not follow those before it
pub no_place : (front : List Entry) (count i : ℕ) (bytes : List ℕ) (x : Entry) (after : List ℕ) (total : Option (List Entry × List ℕ)) (r : Refusal) → i < count → entry_at bytes ≡ Some (x, after)
    → with_front entry_at front (many_at entry_at (count - i) bytes) ≡ total → Misfits front x r → NoDay total
no_place front count i bytes x after total r lt h so_far m es rest e is =
    let more = has_front entry_at (front ++ x ∷ []) (count - (i + 1)) after es rest (goes_on entry_at front count i bytes x after total lt h so_far ∙ e) in
    misfits front x more.0 r m (subst AreFiles (more.1 ∙ append_assoc front (x ∷ []) more.0) is)

-- or there is no memory for it
pub refused : (front : List Entry) (x : Entry) (total : Option (List Entry × List ℕ)) (r : Refusal) → (Misfits front x r → NoDay total) → IsNotAdded front x r → Fails (bad_day r) (NoDay total)
refused front x total NoMemory none why = tt
refused front x total r none why = none why
