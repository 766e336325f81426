-- Words of a line: what lies between spaces and tabs.
-- Assumes nothing.
use Rattle.std.specs.Prelude.{ℕ, Bool, ◌||◌, List, take, drop, ◌==◌}
use Rattle.std.specs.List.{prefix_len, position_or_len}

-- a space or a tab
abbrev pub blank : ℕ → Bool
blank c = c == 32 || c == 9

-- a line from its first word on
unfoldable pub trimmed : List ℕ → List ℕ
trimmed l = drop (prefix_len blank l) l

-- the first word of a line, and what follows it; a line without a word has the empty one
unfoldable pub first : List ℕ → List ℕ
first l = take (position_or_len blank (trimmed l)) (trimmed l)

unfoldable pub rest : List ℕ → List ℕ
rest l = drop (position_or_len blank (trimmed l)) (trimmed l)
