-- Independence, and the three rules of the do-calculus as equations of probabilities (Pearl, Causality, chapter 3).
use Rattle.std.specs.Prelude.{ℕ, ◌*◌, ◌≡◌, ◌≢◌, Bool, false, ◌||◌, ◌↔◌, IsTrue}
use Rattle.mixed_graph.specs.Vocabulary.{MixedGraph, IsMixedGraph, IsAncestor, Within, Apart}
use Rattle.fractions.specs.Vocabulary.{Fraction, IsEqual}
use Rattle.finite_models.specs.Vocabulary.{FiniteModel, Fits, IsAssignment, IsPositiveModel, event_weight, probability, ServesTwo}
use Rattle.do_rules.specs.Cuts.{cut_into, cut_out}
use Rattle.m_separation.specs.declared.paths.OpenPath.{OpenPath}
use Rattle.m_separation.specs.Vocabulary.{IsSeparated, IsOpenPath}
use Rattle.do_rules.specs.declared.rules.Rule.{Rule}
use Rattle.do_rules.specs.declared.rules.Rule.TheVariants.{One, Two, Three}

-- x and y are independent given w: at each assignment the weights of x+y+w and of w have the product of those of x+w and of y+w
abbrev pub IsIndependent : FiniteModel → (x y w : ℕ → Bool) → Type 0
IsIndependent m x y w = (s : ℕ → ℕ) → event_weight m (λ v. x v || (y v || w v)) s * event_weight m w s
    ≡ event_weight m (λ v. x v || w v) s * event_weight m (λ v. y v || w v) s

-- they are so in each model that fits the graph
abbrev pub AreIndependent : MixedGraph → (x y w : ℕ → Bool) → Type 0
AreIndependent g x y w = (m : FiniteModel) → Fits g m → IsIndependent m x y w

-- in some positive model that fits the graph, whose causes serve two vertices at most, x and y are dependent given w, at some assignment
pub record AreDependent (g : MixedGraph) (x y w : ℕ → Bool) : Type 0 where
  pub model : FiniteModel
  pub fits : Fits g model
  pub positive : IsPositiveModel model
  pub two : ServesTwo model
  pub at : ℕ → ℕ
  pub within : IsAssignment model.vertices model.size at
  pub unequal : event_weight model (λ v. x v || (y v || w v)) at * event_weight model w at ≢ event_weight model (λ v. x v || w v) at * event_weight model
      (λ v. y v || w v) at

-- the three sets are below n and pairwise disjoint
pub record AreThreeSets (n : ℕ) (x y w : ℕ → Bool) : Type 0 where
  pub x_within : Within n x
  pub y_within : Within n y
  pub w_within : Within n w
  pub x_y : Apart x y
  pub x_w : Apart x w
  pub y_w : Apart y w

-- the four sets are below n and pairwise disjoint
pub record AreFourSets (n : ℕ) (x y z w : ℕ → Bool) : Type 0 where
  pub x_within : Within n x
  pub y_within : Within n y
  pub z_within : Within n z
  pub w_within : Within n w
  pub x_y : Apart x y
  pub x_z : Apart x z
  pub x_w : Apart x w
  pub y_z : Apart y z
  pub y_w : Apart y w
  pub z_w : Apart z w

-- p is the part of z that rule 3 cuts: the members of z that are no ancestors of w in the graph without the edges into x
pub record IsFarPart (g : MixedGraph) (x z w p : ℕ → Bool) : Type 0 where
  pub inside : (v : ℕ) → IsTrue (p v) → IsTrue (z v)
  pub no_ancestor : (v : ℕ) → IsTrue (p v) → IsAncestor (cut_into g x) w v → ⊥
  pub complete : (v : ℕ) → IsTrue (z v) → p v ≡ false → IsAncestor (cut_into g x) w v

-- the number of a rule
abbrev pub number_of : Rule → ℕ
number_of One = 1
number_of Two = 2
number_of Three = 3

-- h is the graph of a rule: without the edges into x; for rule 2 also without the arrows out of z, and for rule 3 without the edges into the far part of z
abbrev pub IsRuleGraph : Rule → MixedGraph → (x z w : ℕ → Bool) → (h : MixedGraph) → Type 0
IsRuleGraph One g x z w h = h ≡ cut_into g x
IsRuleGraph Two g x z w h = h ≡ cut_out (cut_into g x) z
IsRuleGraph Three g x z w h = (p : ℕ → Bool) × IsFarPart g x z w p × (h ≡ cut_into (cut_into g x) p)

-- what a rule asks of x, y, z and w: in its graph y and z are separated by x and w together
pub record IsBlockedFor (r : Rule) (g : MixedGraph) (x y z w : ℕ → Bool) : Type 0 where
  pub graph : MixedGraph
  pub is_graph : IsRuleGraph r g x z w graph
  pub separated : IsSeparated graph y z (λ v. x v || w v)

-- this path from y to z is open in the graph of the rule
pub record IsOpenFor (r : Rule) (g : MixedGraph) (x y z w : ℕ → Bool) (p : OpenPath) : Type 0 where
  pub graph : MixedGraph
  pub is_graph : IsRuleGraph r g x z w graph
  pub path : IsOpenPath graph y z (λ v. x v || w v) p.vertices p.marks p.count

-- the sets of a probability P(of | do(doing), given)
pub record Side : Type 0 where
  pub of : ℕ → Bool
  pub doing : ℕ → Bool
  pub given : ℕ → Bool

-- the left side of a rule: P(y | do(x), z, w), P(y | do(x), do(z), w) and P(y | do(x), do(z), w)
abbrev pub left_of : Rule → (x y z w : ℕ → Bool) → Side
left_of One x y z w = record { of = y; doing = x; given = λ v. z v || w v }
left_of Two x y z w = record { of = y; doing = λ v. x v || z v; given = w }
left_of Three x y z w = record { of = y; doing = λ v. x v || z v; given = w }

-- its right side: P(y | do(x), w), P(y | do(x), z, w) and P(y | do(x), w)
abbrev pub right_of : Rule → (x y z w : ℕ → Bool) → Side
right_of One x y z w = record { of = y; doing = x; given = w }
right_of Two x y z w = record { of = y; doing = x; given = λ v. z v || w v }
right_of Three x y z w = record { of = y; doing = x; given = w }

-- the probability of a side at an assignment
abbrev pub side_value : FiniteModel → Side → (ℕ → ℕ) → Fraction
side_value m side s = probability m side.doing side.of side.given s

-- two sides are equal, at each assignment, in each positive model that fits the graph
abbrev pub AreEqualSides : MixedGraph → (left right : Side) → Type 0
AreEqualSides g left right = (m : FiniteModel) → Fits g m → IsPositiveModel m → (s : ℕ → ℕ) → IsAssignment m.vertices m.size s
    → IsEqual (side_value m left s) (side_value m right s)

-- the equation of a rule
abbrev pub IsRuleFor : Rule → MixedGraph → (x y z w : ℕ → Bool) → Type 0
IsRuleFor r g x y z w = AreEqualSides g (left_of r x y z w) (right_of r x y z w)

-- in some positive model that fits the graph, whose causes serve two vertices at most, two sides differ, at some assignment
pub record DifferSomewhere (g : MixedGraph) (left right : Side) : Type 0 where
  pub model : FiniteModel
  pub fits : Fits g model
  pub positive : IsPositiveModel model
  pub two : ServesTwo model
  pub at : ℕ → ℕ
  pub within : IsAssignment model.vertices model.size at
  pub unequal : IsEqual (side_value model left at) (side_value model right at) → ⊥

-- where a rule's path is open, its equation fails in some model
abbrev pub OpenRulesFail : Type 0
OpenRulesFail = (r : Rule) (g : MixedGraph) → IsMixedGraph g → (x y z w : ℕ → Bool) → AreFourSets g.vertices x y z w → (p : OpenPath) → IsOpenFor r g x y z w p
    → DifferSomewhere g (left_of r x y z w) (right_of r x y z w)

-- sets are separated exactly where they are independent in each model that fits
abbrev pub IndependenceIsSeparation : Type 0
IndependenceIsSeparation = (g : MixedGraph) → IsMixedGraph g → (x y w : ℕ → Bool) → AreThreeSets g.vertices x y w → IsSeparated g x y w ↔ AreIndependent g x y w

-- and exactly where they are independent in each positive one
abbrev pub PositiveIndependenceIsSeparation : Type 0
PositiveIndependenceIsSeparation = (g : MixedGraph) → IsMixedGraph g → (x y w : ℕ → Bool) → AreThreeSets g.vertices x y w
    → IsSeparated g x y w ↔ ((m : FiniteModel) → Fits g m → IsPositiveModel m → IsIndependent m x y w)

-- in the graph of a rule y and z are separated exactly where the rule's equation holds in each positive model that fits the graph itself
abbrev pub RuleIsSeparation : Type 0
RuleIsSeparation = (r : Rule) (g : MixedGraph) → IsMixedGraph g → (x y z w : ℕ → Bool) → AreFourSets g.vertices x y z w → (h : MixedGraph)
    → IsRuleGraph r g x z w h
    → IsSeparated h y z (λ v. x v || w v) ↔ IsRuleFor r g x y z w
