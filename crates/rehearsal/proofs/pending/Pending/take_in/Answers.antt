use Rattle.std.proofs.Common.{refl, drop-cons, take-append-drop, ℕ, ◌+◌, ◌%◌, ◌^◌, ◌<◌, ◌≤◌, List, ◌++◌, length, take, take_all, ap, subst, ◌∙◌, arith}
use Rattle.std.proofs.lemmas.Grind.{common_steps}
use Rattle.std.proofs.lemmas.List.{take_rest}
use Rattle.rehearsal.specs.Pendings.{Holds}
use Rattle.rehearsal.proofs.pending.Pending.take_in.Goals as goal

pub returns-then-end-part-clause-taken : goal.returns-then-end-part-clause-taken
returns-then-end-part-clause-taken c =
    λ l h.
    let part : List ℕ = c.args.part.now in
    let all : length part ≤ c.line_end-end.result = omega (arith, c.if-end-part.true) in (
      λ k below. c.line_end-end.ensures.before k (omega arith),
      subst (λ (x : List ℕ). Holds c.extend.new.self (l ++ x)) (take_all c.line_end-end.result part all) (c.extend.ensures.line l h),
      c.extend.ensures.ended,
      refl,
    )

pub returns-clause-taken : goal.returns-clause-taken
returns-clause-taken c =
    λ l h.
    let part : List ℕ = c.args.part.now in
    let n : ℕ = c.line_end-end.result in
    let inside : n < length part = omega (arith, c.line_end-end.ensures.within, c.if-end-part.false) in
    let newline = c.line_end-end.ensures.found inside in
    let after = take_rest part (n + 1) in (
      take n part,
      λ k below. grind (arith, common_steps, c.line_end-end.ensures.before k),
      rw after (grind (arith, common_steps, take-append-drop, drop-cons, inside, newline)),
      c.end.ensures.answer (l ++ take n part) (c.extend.ensures.line l h),
      c.end.ensures.line,
      c.end.ensures.ended ∙ ap (λ m. (m + 1) % 2 ^ 64) c.extend.ensures.ended,
    )
