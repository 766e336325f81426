use Rattle.std.proofs.lemmas.List.Elements.{All-from_recursion}
use Rattle.promise.specs.Cases.{Holds, cases}
use Rattle.promise.proofs.CasesRows.{row_a, row_b, row_b_raised, row_c, row_d, row_e}
use Rattle.promise.proofs.CasesZeros.{row_f}
use Rattle.promise.proofs.cases.worked_cases.Goals as goal

pub returns : goal.returns
returns c = record { cases = λ p least few. All-from_recursion Holds (cases p) (row_a p least few, (row_b p least few, (row_b_raised p least few, (row_c p least few, (row_d p least few, (row_e p least few, (row_f, tt))))))) }
