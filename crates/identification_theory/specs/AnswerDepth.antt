-- How deep the nodes of a formula nest.
use Rattle.std.specs.Prelude.{ℕ, zero, suc, Bool, true, false, ◌&&◌, List, [], ◌∷◌}
use Rattle.prob_expr.specs.Tree.{Tree, prob, sum, product, quotient, named, tree}
use Rattle.prob_expr.specs.Vocabulary.{Trees, no_trees}

abbrev mutual
  -- at most d nodes lie on a way from the root to a leaf, both counted
  pub is_tree_within : ℕ → Tree → Bool
  is_tree_within zero e = false
  is_tree_within (suc d) (prob a b c) = true
  is_tree_within (suc d) (sum u e) = is_tree_within d e
  is_tree_within (suc d) (product ts) = are_trees_within d ts
  is_tree_within (suc d) (quotient p q) = is_tree_within d p && is_tree_within d q
  is_tree_within (suc d) (named k) = true

  pub are_trees_within : ℕ → Trees → Bool
  are_trees_within d no_trees = true
  are_trees_within d (tree t ts) = is_tree_within d t && are_trees_within d ts

-- the nodes of each definition nest so
abbrev pub are_defs_within : ℕ → List Tree → Bool
are_defs_within d [] = true
are_defs_within d (t ∷ ts) = is_tree_within d t && are_defs_within d ts
