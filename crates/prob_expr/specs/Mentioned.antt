-- The vertices that a formula names.
use Rattle.std.specs.Prelude.{ℕ, List, [], ◌∷◌}
use Rattle.mixed_graph.specs.Vocabulary.{union}
use Rattle.prob_expr.specs.Tree.{Tree, prob, sum, product, quotient, named, Trees, no_trees, tree, PlainFormula}

abbrev mutual
  -- those that a tree names in a term or in a sum
  pub mentioned_in : Tree → ℕ
  mentioned_in (prob a b c) = union (union a b) c
  mentioned_in (sum u e) = union u (mentioned_in e)
  mentioned_in (product ts) = mentioned_in_any ts
  mentioned_in (quotient p q) = union (mentioned_in p) (mentioned_in q)
  mentioned_in (named k) = 0

  -- those that some tree of the list names
  pub mentioned_in_any : Trees → ℕ
  mentioned_in_any no_trees = 0
  mentioned_in_any (tree t ts) = union (mentioned_in t) (mentioned_in_any ts)

-- those that some definition names
abbrev pub mentioned_in_defs : List Tree → ℕ
mentioned_in_defs [] = 0
mentioned_in_defs (d ∷ ds) = union (mentioned_in d) (mentioned_in_defs ds)

-- those that a definition or main names
abbrev pub mentioned : PlainFormula → ℕ
mentioned f = union (mentioned_in_defs f.defs) (mentioned_in f.main)
