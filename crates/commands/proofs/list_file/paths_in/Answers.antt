use Rattle.std.proofs.Common.{◌≡◌, ◌++◌, [], ◌∷◌, ◌⊎◌, List, length, map, sym, ◌∙◌, ℕ, arith}
use Rattle.std.proofs.lemmas.Bool.Decides.{nat_tests}
use Rattle.std.proofs.lemmas.List.{length-map}
use Rattle.commands.specs.declared.list_file.LineFault.TheVariants.{NoMemory}
use Rattle.commands.specs.Lines.{Fits, Misfits, path_of, paths_of}
use Rattle.commands.proofs.Lines.{all_read, goes_on, stops}
use Rattle.commands.proofs.list_file.paths_in.Goals as goal

pub returns-in-Err : goal.returns-in-Err
returns-in-Err c =
    let ps : List (List ℕ) = map (λ p. p.now) c.loop-rest.paths.items in
    let why : (c.in-Err.fault ≡ NoMemory) ⊎ Misfits ps (path_of c.first_line.result.0.now) c.in-Err.fault = c.in-Err.ensures in
    let long : c.len-place.result ≡ length c.loop-rest.paths.items = omega arith in
    let count : c.len-place.result ≡ length ps = long ∙ sym (length-map c.loop-rest.paths.items (λ p. p.now)) in
    (length ps, omega arith, stops (paths_of c.args.list.now) ps c.loop-rest.rest.now c.first_line.result.0.now c.first_line.result.1.now c.in-Err.fault c.loop-rest.invariant.split c.loop-rest.invariant.in_order c.first_line.ensures.lines why)

pub loop-rest-preserved : goal.loop-rest-preserved
loop-rest-preserved c =
    let ps : List (List ℕ) = map (λ p. p.now) c.loop-rest.paths.items in
    let qs : List (List ℕ) = map (λ p. p.now) c.add_line.new.paths.items in
    let adds : Fits ps (path_of c.first_line.result.0.now) × (qs ≡ ps ++ path_of c.first_line.result.0.now ∷ []) = c.in_default.ensures in
    let next = goes_on (paths_of c.args.list.now) ps qs c.loop-rest.rest.now c.first_line.result.0.now c.first_line.result.1.now c.loop-rest.invariant.split c.loop-rest.invariant.in_order c.first_line.ensures.lines adds.0 adds.1 in
    record { split = next.0; in_order = next.1 }

pub returns : goal.returns
returns c =
    let none : length c.loop-rest.rest.now ≡ 0 = grind (arith, nat_tests) in
    all_read (paths_of c.args.list.now) (map (λ p. p.now) c.loop-rest.paths.items) c.loop-rest.rest.now c.loop-rest.invariant.split c.loop-rest.invariant.in_order none
