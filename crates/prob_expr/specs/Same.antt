-- A test of plain trees for equality.
use Rattle.std.specs.Prelude.{Bool, true, false, ◌&&◌, ◌==◌}
use Rattle.prob_expr.specs.Tree.{Tree, prob, sum, product, quotient, named, Trees, no_trees, tree}

abbrev mutual
  pub same_tree : Tree → Tree → Bool
  same_tree (prob a b c) (prob d e f) = a == d && (b == e && c == f)
  same_tree (sum u e) (sum v f) = u == v && same_tree e f
  same_tree (product ts) (product us) = same_trees ts us
  same_tree (quotient p q) (quotient r s) = same_tree p r && same_tree q s
  same_tree (named k) (named l) = k == l
  same_tree t u = false

  pub same_trees : Trees → Trees → Bool
  same_trees no_trees no_trees = true
  same_trees (tree t ts) (tree u us) = same_tree t u && same_trees ts us
  same_trees ts us = false
