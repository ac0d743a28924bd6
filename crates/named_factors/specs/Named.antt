-- A formula over names and primed names as a sum of a product of factors: each of its terms reads x at its own level, or at the second one, which was
-- observed.
use Rattle.std.specs.Prelude.{ℕ, ◌≡◌, ◌<◌, Bool, true, false, ◌||◌, List, [], ◌∷◌}
use Rattle.mixed_graph.specs.Vocabulary.{has, MixedGraph, IsMixedGraph}
use Rattle.fractions.specs.Vocabulary.{Fraction, IsEqual}
use Rattle.finite_models.specs.Vocabulary.{FiniteModel, Fits, IsAssignment, IsPositiveModel}
use Rattle.prob_expr.specs.Tree.{Tree, prob, sum, product, tree}
use Rattle.prob_expr.specs.Vocabulary.{Trees, no_trees, PlainFormula, weights_of, value_of}
use Rattle.treated_models.specs.Vocabulary.{NamesOnce, as_observed, plain_in, primed_in, with_primes}
use Rattle.factor_values.specs.Vocabulary.{PlainFactor, PlainFactors, factors_value}

-- the set has the vertices of some names: of own names, and of primed ones
abbrev pub AreVertices : (n x : ℕ) → (ℕ → Bool) → ℕ → Type 0
AreVertices n x names set = (v : ℕ) → has set v ≡ (plain_in n names v || primed_in n x names v)

-- the set has the members of x whose primed names are among them
abbrev pub AreSeen : (n x : ℕ) → (ℕ → Bool) → ℕ → Type 0
AreSeen n x names set = (v : ℕ) → has set v ≡ primed_in n x names v

-- the factor is the term P(a | c) of vertices, and reads at their second levels those whose primed names the term has
pub record IsFactorOfTerm (n x a c : ℕ) (f : PlainFactor) : Type 0 where
  pub of : ℕ
  pub are_of : AreVertices n x (has a) of
  pub given : ℕ
  pub are_given : AreVertices n x (has c) given
  pub formula : f.formula ≡ record { defs = []; main = prob of 0 given }
  pub second : AreSeen n x (λ k. has a k || has c k) f.second

-- the tree is a term, and this is its factor
abbrev pub IsFactorOf : (n x : ℕ) → Tree → PlainFactor → Type 0
IsFactorOf n x (prob a b c) f = IsFactorOfTerm n x a c f
IsFactorOf n x t f = ⊥

-- and so is each of them
abbrev pub AreFactorsOf : (n x : ℕ) → Trees → List PlainFactor → Type 0
AreFactorsOf n x no_trees [] = Unit {0}
AreFactorsOf n x no_trees (f ∷ fs) = ⊥
AreFactorsOf n x (tree t ts) [] = ⊥
AreFactorsOf n x (tree t ts) (f ∷ fs) = IsFactorOf n x t f × AreFactorsOf n x ts fs

-- the factors of a product, or the tree alone
abbrev pub factors_in : Tree → Trees
factors_in (product ts) = ts
factors_in t = tree t no_trees

-- the set that a tree is summed over
abbrev pub summed_in : Tree → ℕ
summed_in (sum u e) = u
summed_in t = 0

-- and what is summed
abbrev pub body_in : Tree → Tree
body_in (sum u e) = e
body_in t = t

-- these are the factors of a tree over names
pub record AreNamedFactors (n x : ℕ) (main : Tree) (e : PlainFactors) : Type 0 where
  pub summed : e.summed ≡ summed_in main
  pub factors : AreFactorsOf n x (factors_in (body_in main)) e.factors
  pub given : e.given ≡ 0

-- what the formula's value is over names and primed names, the factors' value is, at the levels of the names and as observed
abbrev pub FactorsEqualNamed : Type 0
FactorsEqualNamed = (g : MixedGraph) → IsMixedGraph g → (m : FiniteModel) → Fits g m → IsPositiveModel m
    → (x : ℕ) (f : PlainFormula) → NamesOnce g.vertices x f.main
    → (e : PlainFactors) → AreNamedFactors g.vertices x f.main e
    → ((v : ℕ) → has e.summed v ≡ true → v < g.vertices) → ((v : ℕ) → has e.summed v ≡ true → has x v ≡ false)
    → (s : ℕ → ℕ) → IsAssignment (with_primes m x).vertices (with_primes m x).size s
    → (k : Fraction) → IsEqual (value_of (with_primes m x) f s) k
    → IsEqual (factors_value (weights_of m) e s (as_observed g.vertices x s)) k
