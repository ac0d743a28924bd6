-- Trees that have a text.
use Rattle.std.specs.Prelude.{ℕ, ◌^◌, Bool, true, not, ◌&&◌, ltb, List, [], ◌∷◌}
use Rattle.prob_expr.specs.Tree.{Tree, prob, sum, product, quotient, named, tree}
use Rattle.prob_expr.specs.Vocabulary.{Trees, no_trees, is_term, are_two}
use Rattle.mixed_graph.specs.Vocabulary.{is_empty, is_below}

abbrev mutual
  -- each term is one over n vertices, each sum is over some of them, and each product has two factors or more
  pub is_sound : ℕ → Tree → Bool
  is_sound n (prob a b c) = is_term n a b c
  is_sound n (sum u e) = (is_below n u && not (is_empty u)) && is_sound n e
  is_sound n (product ts) = are_two ts && are_sound n ts
  is_sound n (quotient p q) = is_sound n p && is_sound n q
  is_sound n (named k) = true

  pub are_sound : ℕ → Trees → Bool
  are_sound n no_trees = true
  are_sound n (tree t ts) = is_sound n t && are_sound n ts

abbrev mutual
  -- the numbers of definitions have 32 bits
  pub is_numbered : Tree → Bool
  is_numbered (prob a b c) = true
  is_numbered (sum u e) = is_numbered e
  is_numbered (product ts) = are_numbered ts
  is_numbered (quotient p q) = is_numbered p && is_numbered q
  is_numbered (named k) = ltb k (2 ^ 32)

  pub are_numbered : Trees → Bool
  are_numbered no_trees = true
  are_numbered (tree t ts) = is_numbered t && are_numbered ts

-- each tree of the list is sound
abbrev pub all_sound : ℕ → List Tree → Bool
all_sound n [] = true
all_sound n (t ∷ ts) = is_sound n t && all_sound n ts
