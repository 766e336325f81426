use Rattle.std.proofs.Common.{◌≡◌, drop, map}
use Rattle.commands.specs.Arguments.{after_all, said}
use Rattle.commands.proofs.arguments.Given.take_all.Given as goal

abbrev pub invariant-loop-word : goal.invariant-loop-word
invariant-loop-word l = after_all l.tells (map (λ w. w.now) (drop l.word-index l.words)) (said l.self) ≡ after_all l.tells (map (λ w. w.now) l.words) (said l.initial.self)
