use Rattle.std.proofs.Common.{ℕ, Bool, cond, List, [], Bor, Ok, Err, ap, ◌∙◌, codes, inr}
use Rattle.commands.specs.declared.arguments.Fault.TheVariants.{NoFolder}
use Rattle.commands.specs.Arguments.{after_all, said}
use Rattle.commands.proofs.Words.{ends, goes_on, stops, values}
use Rattle.commands.proofs.arguments.Given.take_all.Goals as goal

abbrev nothing : Bor (List ℕ)
nothing = record { ref_ptr = (0, 0); now = [] }

pub returns-in-Err : goal.returns-in-Err
returns-in-Err c = stops c.args.tells c.args.words.now c.loop-word.word-index nothing (said c.loop-word.self) c.in-Err.fault (after_all c.args.tells (values c.args.words.now) (said c.args.self.now)) c.loop-word-test.true c.in-Err.ensures c.loop-word.invariant

pub loop-word-preserved : goal.loop-word-preserved
loop-word-preserved c = goes_on c.args.tells c.args.words.now c.loop-word.word-index nothing (said c.loop-word.self) (said c.take.new.self) (after_all c.args.tells (values c.args.words.now) (said c.args.self.now)) c.loop-word-test.true c.in_default.ensures c.loop-word.invariant

pub returns-then-self : goal.returns-then-self
returns-then-self c =
    inr (ends c.args.tells c.args.words.now c.loop-word.word-index (said c.loop-word.self) (after_all c.args.tells (values c.args.words.now) (said c.args.self.now)) c.loop-word-test.false c.loop-word.invariant
    ∙ ap (λ (b : Bool). cond b (Err (codes "--store", NoFolder)) (Ok (said c.loop-word.self))) c.if-self.true)

pub returns : goal.returns
returns c =
    ends c.args.tells c.args.words.now c.loop-word.word-index (said c.loop-word.self) (after_all c.args.tells (values c.args.words.now) (said c.args.self.now)) c.loop-word-test.false c.loop-word.invariant
    ∙ ap (λ (b : Bool). cond b (Err (codes "--store", NoFolder)) (Ok (said c.loop-word.self))) c.if-self.false
