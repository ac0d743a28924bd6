-- Whether a formula has vertices of a set alone, in its terms and its sums.
use Rattle.std.specs.Prelude.{ℕ, Bool, true, ◌&&◌, List, [], ◌∷◌}
use Rattle.mixed_graph.specs.Vocabulary.{is_inside}
use Rattle.prob_expr.specs.Tree.{Tree, prob, sum, product, quotient, named, Trees, no_trees, tree, PlainFormula}

abbrev mutual
  -- each term and each sum of the tree has vertices of the set alone
  pub uses_only : ℕ → Tree → Bool
  uses_only set (prob a b c) = is_inside a set && is_inside c set
  uses_only set (sum u e) = is_inside u set && uses_only set e
  uses_only set (product ts) = use_only set ts
  uses_only set (quotient p q) = uses_only set p && uses_only set q
  uses_only set (named k) = true

  -- and so do all trees of the list
  pub use_only : ℕ → Trees → Bool
  use_only set no_trees = true
  use_only set (tree t ts) = uses_only set t && use_only set ts

-- each definition has vertices of the set alone
abbrev pub defs_use_only : ℕ → List Tree → Bool
defs_use_only set [] = true
defs_use_only set (d ∷ ds) = uses_only set d && defs_use_only set ds

-- the definitions and main have vertices of the set alone
abbrev pub formula_uses_only : ℕ → PlainFormula → Bool
formula_uses_only set f = defs_use_only set f.defs && uses_only set f.main
