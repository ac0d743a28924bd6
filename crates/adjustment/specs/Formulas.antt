-- The adjustment formula (Pearl, Causality, section 3.3).
use Rattle.std.specs.Prelude.{ℕ, [], if◌then◌else◌}
use Rattle.mixed_graph.specs.Vocabulary.{union, is_empty}
use Rattle.prob_expr.specs.Tree.{Tree, prob, sum, product, tree}
use Rattle.prob_expr.specs.Vocabulary.{no_trees, PlainFormula}

-- sum{z} P(z) * P(y | x, z)
abbrev pub adjusted_sum : (x y z : ℕ) → Tree
adjusted_sum x y z = sum z (product (tree (prob z 0 0) (tree (prob y 0 (union x z)) no_trees)))

-- that sum, and P(y | x) for an empty z
abbrev pub adjustment_formula : (x y z : ℕ) → PlainFormula
adjustment_formula x y z = record { defs = []; main = if is_empty z then prob y 0 x else adjusted_sum x y z }
