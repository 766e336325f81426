-- Seeing to the pieces of a file, one after the other.
-- Assumes nothing.
use Rattle.std.proofs.Common.{◌≡◌, ℕ, ◌<◌, ◌≤◌, Ok, Err, ap, sym, subst, ◌∙◌, List, [], ◌∷◌, map, length, slice_index_or, refl}
use Rattle.std.proofs.lemmas.List.{get_or-map, length-map}
use Rattle.std.specs.Borrow.{Bor}
use Rattle.cutting.specs.Results.{contents}
use Rattle.digest.specs.declared.value.Digest.{Digest}
use Rattle.digest.specs.Digests.{digest_of, digest_of_each}
use Rattle.cutting.specs.declared.refusal.Refusal.{Refusal}
use Rattle.store.specs.Loops.{Each, Go, Loop, Times, at}
pub use Rattle.store.proofs.Loops.{loop_done, loop_stops, times_more, times_none}

-- a piece of a list, and its name
pub piece_at : (ps : List (Bor (List ℕ))) (k : ℕ) (d : Bor (List ℕ)) → k < length ps → slice_index_or (contents ps) k [] ≡ (slice_index_or ps k d).now
piece_at ps k d h = get_or-map (λ p. p.now) ps k d [] h

pub name_at : (ps : List (Bor (List ℕ))) (k : ℕ) (d : Bor (List ℕ)) (e : Digest) → k < length ps → slice_index_or (map digest_of (contents ps)) k e ≡ digest_of (slice_index_or ps k d).now
name_at ps k d e h = get_or-map digest_of (contents ps) k [] e (rw (length-map ps (λ p. p.now)) h) ∙ ap digest_of (piece_at ps k d h)

-- the names of pieces
pub names_are : (ps : List (Bor (List ℕ))) → digest_of_each ps ≡ map digest_of (contents ps)
names_are [] = refl
names_are (p ∷ ps) = ap (λ ns. digest_of p.now ∷ ns) (names_are ps)

-- each piece of a list is done; or one is not
module _ {S U : Type 0} (go : List ℕ → Go S U) (ps : List (Bor (List ℕ))) where
  pub each_done : (k : ℕ) (s t : S) (u v : U) → k ≤ length ps → (k < length ps → ⊥) → Times (at [] go (contents ps)) k s u t v → Each [] go (contents ps) s u (Ok tt) t v
  each_done k s t u v l e h = subst (λ n. Loop (at [] go (contents ps)) n s u (Ok tt) t v) (sym (length-map ps (λ p. p.now))) (loop_done _ k (length ps) s t u v l e h)

  pub each_stops : (k : ℕ) (s m t : S) (u w v : U) (r : Refusal) → k < length ps → Times (at [] go (contents ps)) k s u m w → at [] go (contents ps) k m w (Err r) t v → Each [] go (contents ps) s u (Err r) t v
  each_stops k s m t u w v r l h g = subst (λ n. Loop (at [] go (contents ps)) n s u (Err r) t v) (sym (length-map ps (λ p. p.now))) (loop_stops _ k (length ps) s m t u w v r l h g)

  -- as seen by a piece itself
  pub stops_at : (k : ℕ) (d : Bor (List ℕ)) (s m t : S) (u w v : U) (r : Refusal) → k < length ps → Times (at [] go (contents ps)) k s u m w → go (slice_index_or ps k d).now m w (Err r) t v → Each [] go (contents ps) s u (Err r) t v
  stops_at k d s m t u w v r l h g = each_stops k s m t u w v r l h (subst (λ p. go p m w (Err r) t v) (sym (piece_at ps k d l)) g)
