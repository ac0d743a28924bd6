-- Terms: what their sets have to be, and which interventions stand in them.
use Rattle.std.specs.Prelude.{ℕ, Bool, true, false, not, ◌&&◌, ◌||◌, ◌==◌, List, [], ◌∷◌}
use Rattle.mixed_graph.specs.Vocabulary.{is_empty, is_below}
use Rattle.prob_expr.specs.TermSets.{are_term_sets}
use Rattle.prob_expr.specs.Tree.{Tree, prob, sum, product, quotient, named, Trees, no_trees, tree, PlainFormula}

-- a term's three sets are below n, no two of them meet, and the first isn't empty
abbrev pub is_term : ℕ → ℕ → ℕ → ℕ → Bool
is_term n a b c = are_term_sets n a b c && not (is_empty a)

abbrev mutual
  -- each term of the tree is one, and the set of each sum is below n
  pub are_terms : ℕ → Tree → Bool
  are_terms n (prob a b c) = is_term n a b c
  are_terms n (sum u e) = is_below n u && are_terms n e
  are_terms n (product ts) = are_terms_each n ts
  are_terms n (quotient p q) = are_terms n p && are_terms n q
  are_terms n (named k) = true

  pub are_terms_each : ℕ → Trees → Bool
  are_terms_each n no_trees = true
  are_terms_each n (tree t ts) = are_terms n t && are_terms_each n ts

-- the set is one of the list
abbrev pub is_listed : ℕ → List ℕ → Bool
is_listed b [] = false
is_listed b (a ∷ rest) = b == a || is_listed b rest

abbrev mutual
  -- the intervention of each term is empty, or one of the allowed ones
  pub is_under : List ℕ → Tree → Bool
  is_under allowed (prob a b c) = is_empty b || is_listed b allowed
  is_under allowed (sum u e) = is_under allowed e
  is_under allowed (product ts) = are_under allowed ts
  is_under allowed (quotient p q) = is_under allowed p && is_under allowed q
  is_under allowed (named k) = true

  pub are_under : List ℕ → Trees → Bool
  are_under allowed no_trees = true
  are_under allowed (tree t ts) = is_under allowed t && are_under allowed ts

-- each of the trees is under them
abbrev pub all_under : List ℕ → List Tree → Bool
all_under allowed [] = true
all_under allowed (d ∷ ds) = is_under allowed d && all_under allowed ds

-- each term of the formula is observed, or under one of the allowed interventions
abbrev pub is_allowed : List ℕ → PlainFormula → Bool
is_allowed allowed f = all_under allowed f.defs && is_under allowed f.main

-- no term of the formula has an intervention
abbrev pub is_do_free : PlainFormula → Bool
is_do_free f = is_allowed [] f
