use Rattle.std.proofs.Common.{◌≡◌, ◌+◌, ◌*◌, arith, rules}
use Rattle.cutting.proofs.Further.{chunk_at, none_found, end_found}
use Rattle.cutting.proofs.ending.find_end_by_blocks.Goals as goal

pub returns-in_err-number : goal.returns-in_err-number
returns-in_err-number c =
    let turn = c.loop-turn.turn-counter in
    let block = chunk_at 4 _ turn _ _ c.as_chunks.ensures.front (omega arith) in
    let found = c.in_err-number.ensures in
    let sum : c.in_err-number.field-0.0 ≡ turn * 4 + found.0 = search rules in
    rw (c.from_residual.ensures, sum) (end_found _ _ (turn * 4) 4 found.0 _ _ _ c.loop-turn.invariant (omega arith) block c.find_end.ensures found.1)

pub loop-turn-preserved : goal.loop-turn-preserved
loop-turn-preserved c =
    let turn = c.loop-turn.turn-counter in
    let block = chunk_at 4 _ turn _ _ c.as_chunks.ensures.front (omega arith) in
    let next : turn * 4 + 4 ≡ (turn + 1) * 4 = omega arith in
    rw (← next) (none_found _ _ (turn * 4) 4 _ _ _ _ c.loop-turn.invariant (omega arith) block c.find_end.ensures c.in_ok-number.ensures)
