use Rattle.std.proofs.Common.{◌≡◌, ℕ, ◌+◌, ◌*◌, List, ◌++◌, length}
use Rattle.digest.specs.Hasher.{Absorbed}
use Rattle.script.proofs.message.digest_of_next.Given as goal

-- what was hashed so far, and behind it what the source gives next, are what it gave at the beginning
abbrev pub invariant-loop-turn : goal.invariant-loop-turn
invariant-loop-turn g l =
    let next = g.S.Source.next_bytes in
    (length l.buffer ≡ 4096) × (done : List ℕ) × Absorbed l.hasher done × ((n : ℕ) → next l.initial.source (4096 * l._turn + n) ≡ done ++ next l.source n)
