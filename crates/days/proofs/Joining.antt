-- The bytes of a file, as its pieces are written into it.
-- Assumes nothing.
use Rattle.std.proofs.Common.{◌≡◌, ℕ, ◌+◌, ◌≤◌, List, ◌++◌, length, take, drop, ap, sym, ◌∙◌, refl, inl, inr, Some, None, Ok, Err, Option, Result, Vec, vec_items, Global}
use Rattle.std.specs.Option.{ok_or}
use Rattle.cutting.specs.declared.refusal.Refusal.{Refusal}
use Rattle.cutting.specs.declared.refusal.Refusal.TheVariants.{BadDay}
use Rattle.digest.specs.declared.value.Digest.{Digest}
use Rattle.store.specs.declared.piece.Spot.TheVariants.{Place, Aside}
use Rattle.store.specs.Asking.{Doing}
use Rattle.days.specs.Backs.{Extends, JoinsPiece, ReadsPiece, ReadsRight}
use Rattle.std.proofs.lemmas.List.{append_assoc, length-append, length-take-le, take_at}

-- a file into which a piece is written begins with what was there, and with the piece
pub longer : (file piece : List ℕ) (at : ℕ) → at ≤ length file → take (at + length piece) (take at file ++ (piece ++ drop (at + length piece) file)) ≡ take at file ++ piece
longer file piece at h =
    let rest = drop (at + length piece) file in
    ap (take (at + length piece)) (sym (append_assoc (take at file) piece rest)) ∙ take_at (take at file ++ piece) rest (at + length piece) (length-append (take at file) piece ∙ ap (λ n. n + length piece) (length-take-le at file h))

-- a piece that is read, and then written or not
pub joined : {S : Type 0} (does : Doing S) (most : ℕ) (n : Digest) (s t : S) (u v : List ℕ) (p : Vec ℕ Global) (a : Result (Unit {0}) Refusal) → ReadsPiece does n s (Ok p) t → Extends most u (vec_items p) a v → JoinsPiece does most n s u a t v
joined does most n s t u v p (Ok x) r e = (p, r, e)
joined does most n s t u v p (Err x) r e = inr (p, r, e)

-- the third look at a piece, where the first two found none
pub third : {S : Type 0} (does : Doing S) (n : Digest) (s m u t : S) (o : Option (Vec ℕ Global)) → ReadsRight does Place n s (Ok None) m → ReadsRight does Aside n m (Ok None) u → ReadsRight does Place n u (Ok o) t → ReadsPiece does n s (ok_or o BadDay) t
third does n s m u t (Some v) h k l = inr (m, h, inr (u, k, inl l))
third does n s m u t None h k l = inr (m, h, inr (u, k, inr (t, l, (refl, refl))))
