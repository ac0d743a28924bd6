-- Plain trees are told apart by codes, as the value of a type must be.
use Rattle.std.specs.Prelude.{◌≡◌, refl}
use base.Stored.{Gv, gnil, gnum, gcons}
use Rattle.std.specs.Coded.{Coded}
use Rattle.prob_expr.specs.Tree.{Tree, prob, sum, product, quotient, named, Trees, no_trees, tree}

-- each kind of node has a first part of another shape
abbrev mutual
  pub code_of_tree : Tree → Gv
  code_of_tree (prob a b c) = gcons gnil (gcons (gnum a) (gcons (gnum b) (gnum c)))
  code_of_tree (sum u e) = gcons (gnum 0) (gcons (gnum u) (code_of_tree e))
  code_of_tree (product ts) = gcons (gcons gnil gnil) (code_of_trees ts)
  code_of_tree (quotient x y) = gcons (gcons (gnum 0) gnil) (gcons (code_of_tree x) (code_of_tree y))
  code_of_tree (named k) = gcons (gcons (gcons gnil gnil) gnil) (gnum k)

  pub code_of_trees : Trees → Gv
  code_of_trees no_trees = gnil
  code_of_trees (tree t ts) = gcons (code_of_tree t) (code_of_trees ts)

pub same_first : (a b c d : Gv) → gcons a b ≡ gcons c d → a ≡ c
same_first a b c d e = cc e

pub same_second : (a b c d : Gv) → gcons a b ≡ gcons c d → b ≡ d
same_second a b c d e = cc e

mutual
  pub one_tree : (x y : Tree) → code_of_tree x ≡ code_of_tree y → x ≡ y
  one_tree (prob a b c) (prob a' b' c') e = cc e
  one_tree (sum u e) (sum u' e') h =
      let parts : gcons (gnum u) (code_of_tree e) ≡ gcons (gnum u') (code_of_tree e') = cc h in
      let below = one_tree e e' (same_second (gnum u) (code_of_tree e) (gnum u') (code_of_tree e') parts) in
      cc (parts, below)
  one_tree (product ts) (product ts') h =
      let below = one_list ts ts' (same_second (gcons gnil gnil) (code_of_trees ts) (gcons gnil gnil) (code_of_trees ts') h) in
      cc below
  one_tree (quotient p q) (quotient p' q') h =
      let parts : gcons (code_of_tree p) (code_of_tree q) ≡ gcons (code_of_tree p') (code_of_tree q') = cc h in
      let first = one_tree p p' (same_first (code_of_tree p) (code_of_tree q) (code_of_tree p') (code_of_tree q') parts) in
      let second = one_tree q q' (same_second (code_of_tree p) (code_of_tree q) (code_of_tree p') (code_of_tree q') parts) in
      cc (first, second)
  one_tree (named k) (named k') e = cc e
  one_tree x y e = cc e

  pub one_list : (x y : Trees) → code_of_trees x ≡ code_of_trees y → x ≡ y
  one_list no_trees no_trees e = refl
  one_list (tree t ts) (tree t' ts') h =
      let first = one_tree t t' (same_first (code_of_tree t) (code_of_trees ts) (code_of_tree t') (code_of_trees ts') h) in
      let second = one_list ts ts' (same_second (code_of_tree t) (code_of_trees ts) (code_of_tree t') (code_of_trees ts') h) in
      cc (first, second)
  one_list x y e = cc e

-- the code of trees
abbrev pub coded_tree : Coded Tree
coded_tree = record { code = code_of_tree; inj = one_tree }
