-- The pieces that are read for a file, and the file that they make.
-- Assumes nothing.
use Rattle.std.proofs.Common.{◌≡◌, ◌≢◌, ℕ, zero, suc, ◌+◌, ◌<◌, ◌≤◌, ◌⊎◌, inl, inr, true, false, Bool, List, [], ◌∷◌, ◌++◌, length, map, take, Ok, Vec, vec_items, Global, slice_index_or, sym, subst, refl, ◌∙◌, arith, append-nil, Decides}
use Rattle.std.proofs.lemmas.List.{map-append, take_more}
use Rattle.std.proofs.lemmas.List.Folds.{concat-append}
use Rattle.std.proofs.lemmas.Slice.Eq.{bytes_eq-Decides}
use Rattle.std.specs.Prelude.{bytes_eq}
use Rattle.std.specs.List.{AllByRecursion, concat}
use Rattle.digest.specs.declared.value.Digest.{Digest}
use Rattle.digest.specs.Digests.{digest_of}
use Rattle.store.specs.Asking.{Doing}
use Rattle.store.specs.Loops.{Times, at}
use Rattle.store.specs.declared.piece.Spot.{Spot}
use Rattle.days.specs.Backs.{JoinsPiece, ReadsFrom, ReadsPiece, looks}

-- what is read as a piece is of its name
has_name_in : {S : Type 0} (does : Doing S) (spots : List Spot) (n : Digest) (s t : S) (p : Vec ℕ Global) → ReadsFrom does spots n s (Ok p) t → digest_of (vec_items p) ≡ n
has_name_in does [] n s t p x = absurd x
has_name_in does (spot ∷ spots) n s t p (inl (x, e)) = e
has_name_in does (spot ∷ spots) n s t p (inr (m, none, later)) = has_name_in does spots n m t p later

pub has_name : {S : Type 0} (does : Doing S) (n : Digest) (s t : S) (p : Vec ℕ Global) → ReadsPiece does n s (Ok p) t → digest_of (vec_items p) ≡ n
has_name does n s t p reads = has_name_in does looks n s t p reads

all_push : {X : Type 0} (P : X → Type 0) (xs : List X) (y : X) → AllByRecursion P xs → P y → AllByRecursion P (xs ++ y ∷ [])
all_push P [] y h p = (p, tt)
all_push P (x ∷ xs) y (q, h) p = (q, all_push P xs y h p)

module _ {S : Type 0} (does : Doing S) (is_well : S → Type 0) (Q : List ℕ → Type 0)
    (keeps : (n : Digest) (s t : S) (p : Vec ℕ Global) → is_well s → ReadsPiece does n s (Ok p) t → is_well t × Q (vec_items p)) (most : ℕ) (ns : List Digest) where
  -- the pieces that were read so far, joined
  pub record Joined (k : ℕ) (t : S) (v : List ℕ) : Type 0 where
    pub parts : List (List ℕ)
    pub joined : concat parts ≡ v
    pub names : map digest_of parts ≡ take k ns
    pub each : AllByRecursion Q parts
    pub well : is_well t

  -- and one more
  pub one_more : (k : ℕ) (m t : S) (w : List ℕ) (p : Vec ℕ Global) → k < length ns → Joined k m w → ReadsPiece does (slice_index_or ns k (record { bytes = [] })) m (Ok p) t → Joined (k + 1) t (w ++ vec_items p)
  one_more k m t w p l j reads =
      let n = slice_index_or ns k (record { bytes = [] }) in
      let kept = keeps n m t p j.well reads in
      record {
        parts = j.parts ++ vec_items p ∷ [];
        joined = concat-append j.parts (vec_items p ∷ []) ∙ (λ i. j.joined i ++ append-nil (vec_items p) i);
        names = map-append digest_of j.parts (vec_items p ∷ []) ∙ (λ i. j.names i ++ has_name does n m t p reads i ∷ []) ∙ sym (take_more ns k (record { bytes = [] }) l);
        each = all_push Q j.parts (vec_items p) j.each kept.1;
        well = kept.0;
      }

  pub joins : (k : ℕ) (s t : S) (v : List ℕ) → k ≤ length ns → is_well s → Times (at (record { bytes = [] }) (JoinsPiece does most) ns) k s [] t v → Joined k t v
  unfolding Times
  joins zero s t v l w (e, f) = record { parts = []; joined = sym f; names = refl; each = tt; well = subst is_well (sym e) w }
  joins (suc k) s t v l w (m, u, before, (p, reads, (fits, longer))) =
      let more : k + 1 ≡ suc k = omega arith in
      subst (λ (x : ℕ × List ℕ). Joined x.0 t x.1) (λ i. (more i, sym longer i)) (one_more k m t u p (omega arith) (joins k s m u (omega arith) w before) reads)

-- strings that have in order the digests of others are these, or two that differ have one digest
pub record Differ (Q : List ℕ → Type 0) (fs : List (List ℕ)) : Type 0 where
  pub place : ℕ
  pub within : place < length fs
  pub other : List ℕ
  pub is : Q other
  pub same : digest_of other ≡ digest_of (slice_index_or fs place [])
  pub differ : other ≢ slice_index_or fs place []

differ_later : (Q : List ℕ → Type 0) (f : List ℕ) (fs : List (List ℕ)) → Differ Q fs → Differ Q (f ∷ fs)
differ_later Q f fs d = record { place = suc d.place; within = omega (arith, d.within); other = d.other; is = d.is; same = d.same; differ = d.differ }

pub prefix_or_differ : (Q : List ℕ → Type 0) (k : ℕ) (ps fs : List (List ℕ)) → AllByRecursion Q ps → map digest_of ps ≡ take k (map digest_of fs) → (ps ≡ take k fs) ⊎ Differ Q fs
prefix_or_differ Q zero [] fs h e = inl refl
prefix_or_differ Q zero (p ∷ ps) fs h e = absurd cc
prefix_or_differ Q (suc k) [] [] h e = inl refl
prefix_or_differ Q (suc k) (p ∷ ps) [] h e = absurd cc
prefix_or_differ Q (suc k) [] (f ∷ fs) h e = absurd cc
prefix_or_differ Q (suc k) (p ∷ ps) (f ∷ fs) (q, h) e =
    let both : digest_of p ∷ map digest_of ps ≡ digest_of f ∷ take k (map digest_of fs) = e in
    let first : digest_of p ≡ digest_of f = cc in
    let others : map digest_of ps ≡ take k (map digest_of fs) = cc in
    here (bytes_eq p f) (bytes_eq-Decides p f) first (prefix_or_differ Q k ps fs h others)
  where
    here : (b : Bool) → Decides b (p ≡ f) → digest_of p ≡ digest_of f → (ps ≡ take k fs) ⊎ Differ Q fs → (p ∷ ps ≡ f ∷ take k fs) ⊎ Differ Q (f ∷ fs)
    here true d same (inl others) = inl (λ i. d.0 refl i ∷ others i)
    here true d same (inr other) = inr (differ_later Q f fs other)
    here false d same o =
        inr (
        record {
          place = 0;
          within = omega arith;
          other = p;
          is = q;
          same = same;
          differ =
              λ s.
              let g : false ≡ true = d.1 s in
              cc;
        }
        )
