-- The free variables of a formula: those whose values its value may depend on.
use Rattle.std.specs.Prelude.{ℕ, List, [], ◌∷◌, ◌++◌, get_or}
use Rattle.mixed_graph.specs.Vocabulary.{union, minus}
use Rattle.prob_expr.specs.Tree.{Tree, prob, sum, product, quotient, named, Trees, no_trees, tree, PlainFormula}

abbrev mutual
  -- the variables that are free in a tree, where those of the definitions are in the list; a sum binds its own
  pub free_in : List ℕ → Tree → ℕ
  free_in sets (prob a b c) = union (union a b) c
  free_in sets (sum u e) = minus (free_in sets e) u
  free_in sets (product ts) = free_in_any sets ts
  free_in sets (quotient p q) = union (free_in sets p) (free_in sets q)
  free_in sets (named k) = get_or sets k 0

  pub free_in_any : List ℕ → Trees → ℕ
  free_in_any sets no_trees = 0
  free_in_any sets (tree t ts) = union (free_in sets t) (free_in_any sets ts)

-- those of the definitions, in order, behind those that are known
abbrev pub free_in_defs : List ℕ → List Tree → List ℕ
free_in_defs sets [] = sets
free_in_defs sets (d ∷ ds) = free_in_defs (sets ++ free_in sets d ∷ []) ds

-- the free variables of a formula
abbrev pub free_of : PlainFormula → ℕ
free_of f = free_in (free_in_defs [] f.defs) f.main
