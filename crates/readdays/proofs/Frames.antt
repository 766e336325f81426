-- Frames, one after the other.
-- Assumes nothing.
use Rattle.std.proofs.Common.{◌≡◌, ℕ, ◌<◌, ◌≤◌, List, [], ◌∷◌, ◌++◌, length, get_or, take, drop, sym, ap, ◌∙◌, append_assoc, arith, length-take, take-append-drop, inl, inr}
use Rattle.std.specs.Int.{w32, from_be_bytes, to_be_bytes}
use Rattle.std.specs.List.{flat_map}
use Rattle.std.proofs.lemmas.Nat.{be_bytes_4}
use Rattle.std.proofs.lemmas.Bool.{cases_lt}
use Rattle.std.proofs.lemmas.List.{flat_map_more, get_or-take, get_or_past}
use Rattle.readdays.specs.Frames.{frame_bytes}

taken_fits : (n : ℕ) (bytes : List ℕ) → ((i : ℕ) → get_or bytes i 0 < 256) → (i : ℕ) → get_or (take n bytes) i 0 < 256
taken_fits n bytes fits i =
    elim (cases_lt i n) [
      | inl lt ↦ rw (get_or-take n bytes i 0 lt) (fits i)
      | inr le ↦ rw (get_or_past (take n bytes) i 0 (omega (arith, length-take n bytes))) (omega arith)
    ]

-- a frame and what follows it stand behind the frame's length
pub frame_first : (bytes frame after : List ℕ) → ((i : ℕ) → get_or bytes i 0 < 256) → 4 ≤ length bytes → length frame ≡ from_be_bytes w32 (take 4 bytes) → drop 4 bytes ≡ frame ++ after → bytes ≡ frame_bytes frame ++ after
frame_first bytes frame after fits long number rest =
    let same : to_be_bytes w32 (length frame) ≡ take 4 bytes = be_bytes_4 (take 4 bytes) (length frame) (omega (arith, length-take 4 bytes)) (taken_fits 4 bytes fits) number in
    sym (take-append-drop 4 bytes) ∙ ap (λ l. take 4 bytes ++ l) rest ∙ ap (λ l. l ++ (frame ++ after)) (sym same) ∙ sym (append_assoc (to_be_bytes w32 (length frame)) frame after)

-- one frame more
pub frame_more : (fs : List (List ℕ)) (bytes rest f after : List ℕ) → bytes ≡ flat_map frame_bytes fs ++ rest → rest ≡ frame_bytes f ++ after → bytes ≡ flat_map frame_bytes (fs ++ f ∷ []) ++ after
frame_more fs bytes rest f after so_far next =
    so_far ∙ ap (λ l. flat_map frame_bytes fs ++ l) next ∙ sym (append_assoc (flat_map frame_bytes fs) (frame_bytes f) after) ∙ ap (λ l. l ++ after) (flat_map_more frame_bytes [] fs f)
