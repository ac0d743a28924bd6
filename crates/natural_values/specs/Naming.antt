-- The vertices that factors name.
use Rattle.std.specs.Prelude.{ℕ, List, [], ◌∷◌}
use Rattle.mixed_graph.specs.Vocabulary.{union}
use Rattle.prob_expr.specs.Mentioned.{mentioned}
use Rattle.prob_expr.specs.Vocabulary.{free_of}
use Rattle.factor_values.specs.Vocabulary.{PlainFactor}

-- the union of the sets of factors
abbrev pub union_over : (PlainFactor → ℕ) → List PlainFactor → ℕ
union_over set_of [] = 0
union_over set_of (f ∷ fs) = union (set_of f) (union_over set_of fs)

-- the vertices that the formula of some factor names
abbrev pub mentioned_in_factors : List PlainFactor → ℕ
mentioned_in_factors fs = union_over (λ f. mentioned f.formula) fs

-- the variables that are free in the formula of some factor
abbrev pub free_in_factors : List PlainFactor → ℕ
free_in_factors fs = union_over (λ f. free_of f.formula) fs
