-- The lines of refusals.
use Rattle.std.specs.Prelude.{ℕ, List, [], ◌∷◌, ◌++◌, codes}

-- the line of what is wrong
abbrev pub line_of : List ℕ → List ℕ
line_of text = codes "causal: " ++ (text ++ 10 ∷ [])

-- what is wrong with the second of two graphs, or with its names
abbrev pub second : List ℕ → List ℕ
second text = codes "second " ++ text
