-- Formulas over names and primed names whose terms are observed.
use Rattle.std.specs.Prelude.{ℕ, ◌≡◌, Bool, true, false, ◌||◌, List, [], ◌∷◌}
use Rattle.mixed_graph.specs.Vocabulary.{has, MixedGraph, IsMixedGraph}
use Rattle.fractions.specs.Vocabulary.{IsEqual}
use Rattle.finite_models.specs.Vocabulary.{AgreeObserved, FiniteModel, Fits, IsAssignment, IsPositiveModel}
use Rattle.prob_expr.specs.Tree.{Tree, prob, sum, product, quotient, named, tree}
use Rattle.prob_expr.specs.Vocabulary.{Trees, no_trees, PlainFormula, value_of}
use Rattle.treated_models.specs.Primes.{plain_in, primed_in, with_primes}

-- no vertex has both of its names in the set: an event can't give it two values
abbrev pub IsSingle : (n x : ℕ) → (ℕ → Bool) → Type 0
IsSingle n x names = (v : ℕ) → plain_in n names v ≡ true → primed_in n x names v ≡ false

abbrev mutual
  -- each term of the tree is without intervention, and names each vertex once at most
  pub NamesOnce : (n x : ℕ) → Tree → Type 0
  NamesOnce n x (prob a b c) = (b ≡ 0) × IsSingle n x (λ v. has a v || has c v)
  NamesOnce n x (sum u e) = NamesOnce n x e
  NamesOnce n x (product ts) = EachNamesOnce n x ts
  NamesOnce n x (quotient p q) = NamesOnce n x p × NamesOnce n x q
  NamesOnce n x (named k) = Unit {0}

  pub EachNamesOnce : (n x : ℕ) → Trees → Type 0
  EachNamesOnce n x no_trees = Unit {0}
  EachNamesOnce n x (tree t ts) = NamesOnce n x t × EachNamesOnce n x ts

-- and so does each of the trees
abbrev pub AllNameOnce : (n x : ℕ) → List Tree → Type 0
AllNameOnce n x [] = Unit {0}
AllNameOnce n x (d ∷ ds) = NamesOnce n x d × AllNameOnce n x ds

-- and so do the definitions and main
abbrev pub FormulaNamesOnce : (n x : ℕ) → PlainFormula → Type 0
FormulaNamesOnce n x f = AllNameOnce n x f.defs × NamesOnce n x f.main

-- such a formula has equal values in two positive models of a graph that agree on what is observed
abbrev pub ObservedFixesNamed : Type 0
ObservedFixesNamed = (g : MixedGraph) → IsMixedGraph g → (m₁ m₂ : FiniteModel) → Fits g m₁ → Fits g m₂ → IsPositiveModel m₁ → IsPositiveModel m₂
    → AgreeObserved m₁ m₂ → (x : ℕ) (f : PlainFormula) → FormulaNamesOnce g.vertices x f
    → (s : ℕ → ℕ) → IsAssignment (with_primes m₁ x).vertices (with_primes m₁ x).size s
    → IsEqual (value_of (with_primes m₁ x) f s) (value_of (with_primes m₂ x) f s)
