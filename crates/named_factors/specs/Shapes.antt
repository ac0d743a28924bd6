-- Formulas over names that have factors: a sum of a product of terms.
use Rattle.std.specs.Prelude.{ℕ, ◌≡◌, ◌<◌, true, false}
use Rattle.mixed_graph.specs.Vocabulary.{has, MixedGraph}
use Rattle.prob_expr.specs.Tree.{Tree, prob, tree}
use Rattle.prob_expr.specs.Vocabulary.{Trees, no_trees, PlainFormula}
use Rattle.treated_id.specs.Vocabulary.{IsFormula}
use Rattle.named_factors.specs.Named.{factors_in, body_in, summed_in}

-- the tree is a term
abbrev pub IsTerm : Tree → Type 0
IsTerm (prob a b c) = Unit {0}
IsTerm t = ⊥

-- and so is each of them
abbrev pub AreTerms : Trees → Type 0
AreTerms no_trees = Unit {0}
AreTerms (tree t ts) = IsTerm t × AreTerms ts

-- the tree is a sum of a product of terms; the sum, or the product, may be left out
abbrev pub IsSumOfTerms : Tree → Type 0
IsSumOfTerms main = AreTerms (factors_in (body_in main))

-- v is one of n vertices, and isn't in x
pub record IsOutside (n x v : ℕ) : Type 0 where
  pub low : v < n
  pub outside : has x v ≡ false

-- such a tree, summed over vertices outside x alone
pub record IsOverOthers (n x : ℕ) (main : Tree) : Type 0 where
  pub terms : IsSumOfTerms main
  pub others : (v : ℕ) → has (summed_in main) v ≡ true → IsOutside n x v

-- the formula of an effect among the treated is such a sum
abbrev pub TreatedIsSumOfTerms : Type 0
TreatedIsSumOfTerms = (g : MixedGraph) (x y z : ℕ) (f : PlainFormula) → IsFormula g x y z f → IsOverOthers g.vertices x f.main
