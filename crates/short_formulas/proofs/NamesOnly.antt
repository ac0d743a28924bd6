-- What is true of each vertex that a formula names is true of the names in it.
use Rattle.std.proofs.Common.{ℕ, ◌≡◌, Bool, true, ◌||◌, List, [], ◌∷◌, arith}
use Rattle.mixed_graph.specs.Vocabulary.{has, union}
use Rattle.mixed_graph.proofs.MaskLaws.{has_join}
use Rattle.prob_expr.specs.Tree.{Tree, prob, sum, product, quotient, named, tree}
use Rattle.prob_expr.specs.Vocabulary.{Trees, no_trees, PlainFormula, mentioned_in, mentioned_in_any, mentioned_in_defs}
use Rattle.identification_theory.specs.Vocabulary.{AreAll, NamesOnly, EachNamesOnly, AllNameOnly, FormulaNamesOnly}
use Rattle.prob_expr.specs.Mentioned.{mentioned}

left : (p q : Bool) → p ≡ true → (p || q) ≡ true
left p q h = grind (arith, h)

right : (p q : Bool) → q ≡ true → (p || q) ≡ true
right p q h = grind (arith, h)

module _ (P : ℕ → Type 0) where
  first : (a b : ℕ) → AreAll P (union a b) → AreAll P a
  first a b h u e = h u (rw (has_join a b u) (left (has a u) (has b u) e))

  second : (a b : ℕ) → AreAll P (union a b) → AreAll P b
  second a b h u e = h u (rw (has_join a b u) (right (has a u) (has b u) e))

  mutual
    tree_names : (t : Tree) → AreAll P (mentioned_in t) → NamesOnly P t
    tree_names (prob a b c) h = (first a b (first (union a b) c h), second a b (first (union a b) c h), second (union a b) c h)
    tree_names (sum u e) h = (first u (mentioned_in e) h, tree_names e (second u (mentioned_in e) h))
    tree_names (product ts) h = trees_name ts h
    tree_names (quotient p q) h = (tree_names p (first (mentioned_in p) (mentioned_in q) h), tree_names q (second (mentioned_in p) (mentioned_in q) h))
    tree_names (named k) h = tt

    trees_name : (ts : Trees) → AreAll P (mentioned_in_any ts) → EachNamesOnly P ts
    trees_name no_trees h = tt
    trees_name (tree t ts) h = (tree_names t (first (mentioned_in t) (mentioned_in_any ts) h), trees_name ts (second (mentioned_in t) (mentioned_in_any ts) h))

  defs_name : (ds : List Tree) → AreAll P (mentioned_in_defs ds) → AllNameOnly P ds
  defs_name [] h = tt
  defs_name (d ∷ ds) h = (tree_names d (first (mentioned_in d) (mentioned_in_defs ds) h), defs_name ds (second (mentioned_in d) (mentioned_in_defs ds) h))

  -- what is true of each vertex that a formula names is true of all names in it
  pub formula_names_only : (f : PlainFormula) → AreAll P (mentioned f) → FormulaNamesOnly P f
  formula_names_only f h = (
    defs_name f.defs (first (mentioned_in_defs f.defs) (mentioned_in f.main) h),
    tree_names f.main (second (mentioned_in_defs f.defs) (mentioned_in f.main) h),
  )
