-- Right answers to the question for P(y under do(x) | x and z as observed).
use Rattle.std.specs.Prelude.{ℕ, ◌≡◌, Bool, true, false, [], ◌∷◌, List, ◌==◌, IsTrue, Option, Some, None}
use Rattle.mixed_graph.specs.Vocabulary.{has, MixedGraph}
use Rattle.hedge.specs.Vocabulary.{IsLinked}
use Rattle.prob_expr.specs.Vocabulary.{PlainFormula, formula_view}
use Rattle.treated_models.specs.Vocabulary.{EqualsAmong}
use Rattle.treated_id.specs.Sets.{AreAncestors}
use Rattle.treated_id.specs.declared.answers.Confounding.{Confounding}
use Rattle.treated_id.specs.declared.answers.Treated.{Treated}
use Rattle.treated_id.specs.declared.answers.Treated.TheVariants.{Formula, Confounded}
use Rattle.treated_id.specs.declared.pairs.Pair.{Pair}

-- a member of x, and a child of it that is joined to it inside s
pub record IsPair (g : MixedGraph) (x s : ℕ) (pair : Pair) : Type 0 where
  pub treated : IsTrue (has x pair.treatment)
  pub arrow : IsTrue (g.arrow pair.treatment pair.child)
  pub linked : IsLinked g (has s) (λ v. v == pair.treatment) pair.child

-- there is no such pair
abbrev pub HasNoPair : MixedGraph → (x s : ℕ) → Type 0
HasNoPair g x s = (p v : ℕ) → IsTrue (has x p) → IsTrue (g.arrow p v) → IsLinked g (has s) (λ w. w == p) v → ⊥

-- what is found is such a pair, or there is none
abbrev pub IsPairOrNone : MixedGraph → (x s : ℕ) → Option Pair → Type 0
IsPairOrNone g x s (Some pair) = IsPair g x s pair
IsPairOrNone g x s None = HasNoPair g x s

-- the list goes from v to u by bidirected edges, and each member is one of s
abbrev pub IsJoinedPath : MixedGraph → (s : ℕ → Bool) → ℕ → List ℕ → ℕ → Type 0
IsJoinedPath g s v [] u = v ≡ u
IsJoinedPath g s v (w ∷ ws) u = IsTrue (g.both v w) × IsTrue (s w) × IsJoinedPath g s w ws u

-- Among the ancestors of y, x and z, a member of x is joined by bidirected edges to a child of its own: by the path, which leads from the child to it.
pub record IsConfounding (g : MixedGraph) (x y z : ℕ) (c : Confounding) : Type 0 where
  pub ancestors : ℕ
  pub are : AreAncestors g x y z ancestors
  pub treated : IsTrue (has x c.treatment)
  pub arrow : IsTrue (g.arrow c.treatment c.child)
  pub inside : IsTrue (has ancestors c.child)
  pub path : IsJoinedPath g (has ancestors) c.child c.path.items c.treatment

-- A right answer is either a formula that equals the effect among the treated in each positive model of the graph, or a treatment that is confounded with
-- a child of its own.
abbrev pub IsRight : MixedGraph → (x y z : ℕ) → Treated → Type 0
IsRight g x y z (Formula f) = EqualsAmong g x y z (formula_view f)
IsRight g x y z (Confounded c) = IsConfounding g x y z c

-- the fact holds of the formula, where one is answered
abbrev pub IfFormula : Treated → (PlainFormula → Type 0) → Type 0
IfFormula (Formula f) P = P (formula_view f)
IfFormula (Confounded c) P = Unit {0}

-- a confounded treatment is answered
abbrev pub is_confounded : Treated → Bool
is_confounded (Formula f) = false
is_confounded (Confounded c) = true
