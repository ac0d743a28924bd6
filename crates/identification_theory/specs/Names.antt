-- Which vertices a formula names.
use Rattle.std.specs.Prelude.{ℕ, List, [], ◌∷◌, IsTrue}
use Rattle.mixed_graph.specs.Vocabulary.{has}
use Rattle.prob_expr.specs.Tree.{Tree, prob, sum, product, quotient, named, tree}
use Rattle.prob_expr.specs.Vocabulary.{Trees, no_trees, PlainFormula}

-- P holds of each member of the set
abbrev pub AreAll : (ℕ → Type 0) → ℕ → Type 0
AreAll P a = (u : ℕ) → IsTrue (has a u) → P u

abbrev mutual
  -- P holds of each vertex that the tree names in a term or in a sum
  pub NamesOnly : (ℕ → Type 0) → Tree → Type 0
  NamesOnly P (prob a b c) = AreAll P a × AreAll P b × AreAll P c
  NamesOnly P (sum u e) = AreAll P u × NamesOnly P e
  NamesOnly P (product ts) = EachNamesOnly P ts
  NamesOnly P (quotient p q) = NamesOnly P p × NamesOnly P q
  NamesOnly P (named k) = Unit {0}

  pub EachNamesOnly : (ℕ → Type 0) → Trees → Type 0
  EachNamesOnly P no_trees = Unit {0}
  EachNamesOnly P (tree t ts) = NamesOnly P t × EachNamesOnly P ts

-- P holds of each vertex that a tree of the list names
abbrev pub AllNameOnly : (ℕ → Type 0) → List Tree → Type 0
AllNameOnly P [] = Unit {0}
AllNameOnly P (d ∷ ds) = NamesOnly P d × AllNameOnly P ds

-- P holds of each vertex that a definition or main names
abbrev pub FormulaNamesOnly : (ℕ → Type 0) → PlainFormula → Type 0
FormulaNamesOnly P f = AllNameOnly P f.defs × NamesOnly P f.main
