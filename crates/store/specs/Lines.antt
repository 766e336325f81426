-- Several things, one after the other, in words.
-- Assumes nothing.
use Rattle.std.specs.Prelude.{ℕ, List, [], ◌++◌, Option}
use Rattle.std.specs.List.{flat_map}
use Rattle.std.specs.Option.{unwrap_or}

-- each of a list in its words, with the same before and after it
abbrev pub each_text : {A : Type 0} → (A → Option (List ℕ)) → List ℕ → List A → List ℕ → List ℕ
each_text text before xs after = flat_map (λ x. before ++ (unwrap_or (text x) [] ++ after)) xs
