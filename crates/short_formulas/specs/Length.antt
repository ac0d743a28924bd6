-- The length of a formula.
use Rattle.std.specs.Prelude.{ℕ, ◌+◌, List, [], ◌∷◌, length}
use Rattle.mixed_graph.specs.Vocabulary.{has, members_below}
use Rattle.prob_expr.specs.Tree.{Tree, prob, sum, product, quotient, named, tree}
use Rattle.prob_expr.specs.Vocabulary.{Trees, no_trees, PlainFormula}

-- how many members a set has
abbrev pub size_of : ℕ → ℕ
size_of a = length (members_below (has a) 64)

abbrev mutual
  -- the terms and citations of a tree, the names in its terms and those of its sums, counted
  pub length_of : Tree → ℕ
  length_of (prob a b c) = 1 + (size_of a + (size_of b + size_of c))
  length_of (sum u e) = size_of u + length_of e
  length_of (product ts) = length_of_each ts
  length_of (quotient p q) = length_of p + length_of q
  length_of (named k) = 1

  pub length_of_each : Trees → ℕ
  length_of_each no_trees = 0
  length_of_each (tree t ts) = length_of t + length_of_each ts

-- those of several trees
abbrev pub length_of_all : List Tree → ℕ
length_of_all [] = 0
length_of_all (d ∷ ds) = length_of d + length_of_all ds

-- the length of a formula: that of each definition, once, and of main
abbrev pub formula_length : PlainFormula → ℕ
formula_length f = length_of_all f.defs + length_of f.main
