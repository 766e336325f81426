-- The rounds on one block.
-- Assumes nothing.
use Rattle.std.proofs.Common.{◌≡◌, ℕ, ◌+◌, ◌*◌, ◌<◌, List, get_or, add-one}
use Rattle.std.specs.Simd.{first_chunks}
use Rattle.digest.specs.declared.words.Words.{Words}
use Rattle.digest.specs.Sha256.{K, round, rounds}
use Rattle.digest.proofs.Chunks.{chunk_element}

-- after n rounds one more, with constant j of chunk i of four, and word n of the schedule w
pub round_more : (i j : ℕ) (h : Words) (w d : List ℕ) {n s : ℕ} {v r : Words} {x : ℕ} {chunks : List (List ℕ)} → chunks ≡ first_chunks 4 16 K → i < 16 → s ≡ n + 1 → v ≡ rounds n h w → r ≡ round v (get_or (get_or chunks i d) j 0) x
    → j < 4 → 4 * i + j ≡ n → x ≡ get_or w n 0 → r ≡ rounds s h w
unfolding rounds
round_more i j h w d {n} {s} {v} {r} {x} {chunks} cut below next before done inside here word =
    let constant = chunk_element 4 16 i j n K chunks d 0 cut below inside here in
    rw (next, add-one) (cc)
