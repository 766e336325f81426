-- Going along the first piece of a file, some bytes at a time.
-- Assumes nothing.
use Rattle.std.proofs.Common.{◌≡◌, ℕ, zero, suc, ◌+◌, ◌-◌, ◌*◌, ◌<◌, ◌≤◌, min, true, false, ◌⊎◌, List, [], length, length-take-le, get_or, take, drop, fold, sym, ap, ◌∙◌, subst, inl, inr, ⊎_elim, arith, take_all, take-take, take-add, drop-drop, length-drop}
use Rattle.std.proofs.Math.Nat.{zero-mul}
use Rattle.std.proofs.lemmas.Simd.{length-chunk}
use Rattle.std.proofs.lemmas.Bool.{cases_lt, lt-leb, le-leb}
use Rattle.std.proofs.lemmas.List.{drop-take}
use Rattle.std.proofs.lemmas.List.Sums.{fold-append}
use Rattle.std.specs.ControlFlow.{MatchControlFlow, IsBreakAnd}
use Rattle.std.specs.declared.ops.ControlFlow.{ControlFlow}
use Rattle.std.specs.declared.ops.ControlFlow.TheVariants.{Continue, Break}
use Rattle.std.specs.List.{IsSplitAt}
use Rattle.std.specs.Simd.{first_chunks}
use Rattle.cutting.specs.Rule.{next, number_after_all, ends}
use Rattle.cutting.specs.Finds.{is_end, NoEndBefore, Finds}
use Rattle.cutting.specs.Results.{FirstPiece}
use Rattle.cutting.proofs.Cuts.{first_piece}

-- one of the first k chunks of n elements
chunk : {X : Type 0} (n k i : ℕ) (xs d : List X) → i < k → get_or (first_chunks n k xs) i d ≡ take n (drop (i * n) xs)
chunk n zero i xs d h = elim h [ ]
chunk n (suc k) zero xs d h = rw zero-mul
chunk n (suc k) (suc i) xs d h =
    chunk n k i (drop n xs) d (omega arith) ∙ ap (take n) (drop-drop (i * n) n xs) ∙ ap (λ (m : ℕ). take n (drop m xs)) (omega arith)

pub chunk_at : (n k i : ℕ) (xs : List ℕ) (chunks : List (List ℕ)) → chunks ≡ first_chunks n k xs → i < k → get_or chunks i [] ≡ take n (drop (i * n) xs)
chunk_at n k i xs chunks are h = ap (λ (l : List (List ℕ)). get_or l i []) are ∙ chunk n k i xs [] h

-- the piece has not ended with fewer bytes than those up to a place, and there the number is this
pub record Reached (n : ℕ) (bytes : List ℕ) (at number : ℕ) : Type 0 where
  pub within : at ≤ length bytes
  pub there : number ≡ fold next n (take at bytes)
  pub none : NoEndBefore n bytes at

-- the number after j of the m bytes from a place on
number_on : (n number at m j : ℕ) (bytes : List ℕ) → number ≡ fold next n (take at bytes) → j ≤ m → fold next number (take j (take m (drop at bytes))) ≡ fold next n (take (at + j) bytes)
number_on n number at m j bytes there le =
    let part = take-take j m (drop at bytes) le in
    let both = fold-append next n (take at bytes) (take j (drop at bytes)) in
    let longer = take-add at j bytes in
    cc

none_on : (n number at m k : ℕ) (bytes : List ℕ) → Reached n bytes at number → k ≤ m → NoEndBefore number (take m (drop at bytes)) k → NoEndBefore n bytes (at + k)
none_on n number at m k bytes reached le more j short =
    ⊎_elim
    (λ (before : j < at). reached.none j before)
    (λ (on : at ≤ j).
    let is : at + (j - at) ≡ j = omega arith in
    ap (λ (i : ℕ). is_end (fold next n (take i bytes))) (sym is)
    ∙ ap is_end (sym (number_on n number at m (j - at) bytes reached.there (omega arith)))
    ∙ more (j - at) (omega arith))
    (cases_lt j at)

-- where no end is found in the next m bytes, the place after them is reached
pub none_found : (n number at m after : ℕ) (bytes part : List ℕ) (r : ControlFlow ℕ ℕ) → Reached n bytes at number → at + m ≤ length bytes → part ≡ take m (drop at bytes) → Finds number part r → r ≡ Continue after → Reached n bytes (at + m) after
none_found n number at m after bytes part r reached within is found goes =
    let found' : Finds number (take m (drop at bytes)) (Continue after) = subst (Finds number (take m (drop at bytes))) goes (subst (λ (p : List ℕ). Finds number p r) is found) in
    let all = length-chunk at m bytes within in
    let none : NoEndBefore number (take m (drop at bytes)) m = λ j short. found'.0 j (omega arith) in
    let whole = number_on n number at m m bytes reached.there (omega arith) in
    let same = take-take m m (drop at bytes) (omega arith) in
    record { within = within; there = cc; none = none_on n number at m m bytes reached (omega arith) none }

-- where an end is found in them, it is the end in all bytes
pub end_found : (n number at m k : ℕ) (bytes part : List ℕ) (r : ControlFlow ℕ ℕ) → Reached n bytes at number → at + m ≤ length bytes → part ≡ take m (drop at bytes) → Finds number part r → r ≡ Break k → Finds n bytes (Break (at + k))
end_found n number at m k bytes part r reached within is found breaks =
    let found' : Finds number (take m (drop at bytes)) (Break k) = subst (Finds number (take m (drop at bytes))) breaks (subst (λ (p : List ℕ). Finds number p r) is found) in
    let all = length-chunk at m bytes within in
    let below : k ≤ m = omega arith in
    (omega arith, none_on n number at m k bytes reached below found'.1, ap is_end (sym (number_on n number at m k bytes reached.there below)) ∙ found'.2)

-- what is found in all that is left is found in all bytes, so many further on
pub last_found : (n number at : ℕ) (bytes part : List ℕ) (r s : ControlFlow ℕ ℕ) → Reached n bytes at number → part ≡ drop at bytes → Finds number part r → MatchControlFlow s (λ after. r ≡ Continue after) (λ k. IsBreakAnd r (λ j. k ≡ at + j)) → Finds n bytes s
last_found n number at bytes part r (Continue after) reached is found goes =
    let m = length bytes - at in
    let all : drop at bytes ≡ take m (drop at bytes) = sym (take_all m (drop at bytes) (omega (arith, length-drop at bytes))) in
    let end = none_found n number at m after bytes part r reached (omega (arith, reached.within)) (is ∙ all) found goes in
    (λ j short. end.none j (omega arith), end.there ∙ ap (fold next n) (take_all (at + m) bytes (omega arith)))
last_found n number at bytes part r (Break k) reached is found breaks =
    let m = length bytes - at in
    let all : drop at bytes ≡ take m (drop at bytes) = sym (take_all m (drop at bytes) (omega (arith, length-drop at bytes))) in
    subst (λ (i : ℕ). Finds n bytes (Break i)) (sym breaks.2) (end_found n number at m breaks.0 bytes part r reached (omega (arith, reached.within)) (is ∙ all) found breaks.1)

-- between the least and the most bytes of a piece the number alone decides
ends_between : (size n : ℕ) → 2048 ≤ size → size < 65536 → ends size n ≡ is_end n
ends_between size n enough few = rw (lt-leb 65536 size few, le-leb 2048 size enough)

-- and at the most bytes every piece ends
ends_full : (size n : ℕ) → 65536 ≤ size → ends size n ≡ true
ends_full size n full = rw (le-leb 65536 size full)

-- a rest of fewer than 2,048 bytes is one piece
pub short_first : (file : List ℕ) (most : ℕ) → most ≡ min (length file) 65536 → length (take most file) < 2048 → 0 < length file → (0 < most) × FirstPiece file most
short_first file most latest short some =
    let size = length-take-le most file (omega arith) in
    (omega arith, first_piece file most (omega arith) (omega arith) (λ j low high. absurd (omega arith)) (inl (omega arith)))

-- what is found after the first 2,048 bytes of a file, up to where its piece ends at the latest
module _ (file : List ℕ) (most start : ℕ) (least more : List ℕ) (latest : most ≡ min (length file) 65536) (split : IsSplitAt (take most file) 2048 least more) (first : start ≡ number_after_all least) where
  enough : 2048 ≤ most
  enough = omega (arith, length-take-le most file (omega arith))

  started : start ≡ number_after_all (take 2048 file)
  started = first ∙ ap number_after_all (split.1 ∙ take-take 2048 most file enough)

  part : more ≡ take (most - 2048) (drop 2048 file)
  part =
      let whole = enough in
      let is : 2048 + (most - 2048) ≡ most = omega arith in
      split.2 ∙ ap (λ (m : ℕ). drop 2048 (take m file)) (sym is) ∙ drop-take 2048 (most - 2048) file

  number_there : (j : ℕ) → 2048 + j ≤ most → fold next start (take j more) ≡ number_after_all (take (2048 + j) file)
  number_there j le = ap (λ (p : List ℕ). fold next start (take j p)) part ∙ number_on 0 start 2048 (most - 2048) j file started (omega arith)

  none_there : (k : ℕ) → 2048 + k ≤ most → NoEndBefore start more k → (j : ℕ) → j < 2048 + k → 2048 ≤ j → ends j (number_after_all (take j file)) ≡ false
  none_there k le none j short long =
      let is : 2048 + (j - 2048) ≡ j = omega arith in
      ends_between j _ long (omega arith)
      ∙ ap (λ (i : ℕ). is_end (number_after_all (take i file))) (sym is)
      ∙ ap is_end (sym (number_there (j - 2048) (omega arith)))
      ∙ none (j - 2048) (omega arith)

  many : 2048 + length more ≡ most
  many = omega (arith, length-take-le most file (omega arith))

  pub first_found : (k : ℕ) → Finds start more (Break k) → (0 < 2048 + k) × FirstPiece file (2048 + k)
  first_found k found =
      let size = many in
      let here = ends_between (2048 + k) _ (omega arith) (omega arith) ∙ ap is_end (sym (number_there k (omega arith))) ∙ found.2 in
      (omega arith, first_piece file (2048 + k) (omega arith) (omega arith) (none_there k (omega arith) found.1) (inr here))

  pub first_at_most : (after : ℕ) → Finds start more (Continue after) → (0 < most) × FirstPiece file most
  first_at_most after found =
      let size = many in
      let end : (most ≡ length file) ⊎ (ends most (number_after_all (take most file)) ≡ true) =
      ⊎_elim (λ (all : length file < 65536). inl (omega arith)) (λ (full : 65536 ≤ length file). inr (ends_full most _ (omega arith))) (cases_lt (length file) 65536)
      in
      (omega arith, first_piece file most (omega arith) (omega arith) (λ j short long. none_there (length more) (omega arith) found.0 j (omega arith) long) end)
