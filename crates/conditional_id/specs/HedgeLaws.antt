-- Where observations are left whose own effect has a hedge, the effect under a condition has no formula.
use Rattle.std.specs.Prelude.{◌||◌, ℕ, ◌≡◌, ◌*◌, ◌<◌, ◌≤◌, Bool, true, IsTrue, List}
use Rattle.mixed_graph.specs.Vocabulary.{has, minus, one, MixedGraph, IsMixedGraph}
use Rattle.do_rules.specs.Vocabulary.{cut_into, cut_out}
use Rattle.m_separation.specs.Vocabulary.{HasOpenWalk}
use Rattle.finite_models.specs.Vocabulary.{set_at, FiniteModel, Fits, IsAssignment, IsPositiveModel, weight_of, solution, intervene, AgreeObserved, ServesTwo}
use Rattle.fractions.specs.Vocabulary.{IsEqual}
use Rattle.hedge.specs.declared.hedge.Hedge.{Hedge}
use Rattle.hedge.specs.Vocabulary.{IsHedge}
use Rattle.prob_expr.specs.Vocabulary.{PlainTarget, DifferOn, HasNoFormula, effect}
use Rattle.conditional_id.specs.Conditionals.{IsConditionalTarget, IsTurning, IsTurned}
use Rattle.conditional_id.specs.Masked.{AreAlike}

-- the model with other mechanisms
abbrev pub with_mechanism : FiniteModel → (ℕ → (ℕ → ℕ) → (ℕ → ℕ) → ℕ) → FiniteModel
with_mechanism m f = record m { mechanism = f }

-- Two models of the same sizes and causes. The values of members of z have classes, and mechanisms read these alone.
-- Under do(x) each world gives both models the same classes.
pub record IsLeafPair (g : MixedGraph) (x z : ℕ → Bool) (m : FiniteModel) (f : ℕ → (ℕ → ℕ) → (ℕ → ℕ) → ℕ) (class : ℕ → ℕ → Bool) : Type 0 where
  pub first_fits : Fits g m
  pub second_fits : Fits g (with_mechanism m f)
  pub first_positive : IsPositiveModel m
  pub second_positive : IsPositiveModel (with_mechanism m f)
  pub two : ServesTwo m
  pub observed : AgreeObserved m (with_mechanism m f)
  pub first_alike : (w a b : ℕ) → z w ≡ true → a < m.size w → b < m.size w → class w a ≡ class w b → AreAlike m w a b
  pub second_alike : (w a b : ℕ) → z w ≡ true → a < m.size w → b < m.size w → class w a ≡ class w b → AreAlike (with_mechanism m f) w a b
  pub classes : (s u : ℕ → ℕ) → IsAssignment m.vertices m.size s → (v : ℕ) → v < m.vertices → z v ≡ true
      → class v (solution (intervene m x s) u v) ≡ class v (solution (intervene (with_mechanism m f) x s) u v)

-- wherever two values of a member of z have one class, they have the same odds in both models, at each point that differs from this one at most on z
abbrev pub HaveEqualOdds : (x z : ℕ → Bool) (m : FiniteModel) (f : ℕ → (ℕ → ℕ) → (ℕ → ℕ) → ℕ) (class : ℕ → ℕ → Bool) (base : ℕ → ℕ) → Type 0
HaveEqualOdds x z m f class base = (s : ℕ → ℕ) → IsAssignment m.vertices m.size s → ((v : ℕ) → (v < m.vertices → z v ≡ true → ⊥) → s v ≡ base v)
    → (w b : ℕ) → w < m.vertices → z w ≡ true → b < m.size w → class w (s w) ≡ class w b
    → weight_of m x z (set_at s w b) * weight_of (with_mechanism m f) x z s ≡ weight_of m x z s * weight_of (with_mechanism m f) x z (set_at s w b)

-- then z has the same effect in both there
abbrev pub OddsFixWeights : Type 0
OddsFixWeights = (g : MixedGraph) → IsMixedGraph g → (x z : ℕ → Bool) → ((v : ℕ) → x v ≡ true → z v ≡ true → ⊥)
    → (m : FiniteModel) (f : ℕ → (ℕ → ℕ) → (ℕ → ℕ) → ℕ) (class : ℕ → ℕ → Bool) → IsLeafPair g x z m f class
    → (s : ℕ → ℕ) → IsAssignment m.vertices m.size s → HaveEqualOdds x z m f class s → weight_of m x z s ≡ weight_of (with_mechanism m f) x z s

-- Two positive models that fit the graph, whose causes serve at most two vertices each, and that agree on all observations, give the target one value,
-- at each assignment. That it is not so says that two such models differ: the target isn't identifiable.
abbrev pub IsFixed : MixedGraph → PlainTarget → Type 0
IsFixed g t = (m₁ m₂ : FiniteModel) → Fits g m₁ → Fits g m₂ → ServesTwo m₁ → ServesTwo m₂ → IsPositiveModel m₁ → IsPositiveModel m₂ → AgreeObserved m₁ m₂
    → (s : ℕ → ℕ) → IsAssignment m₁.vertices m₁.size s → IsEqual (effect m₁ t s) (effect m₂ t s)

-- where no observation turns, and P(y | do(x), z) is fixed, each leaf pair has one effect of x on z
abbrev pub LeafPairsExclude : Type 0
LeafPairsExclude = (g : MixedGraph) → IsMixedGraph g → (x y z : ℕ) → IsConditionalTarget g (record { x = x; y = y; given = z })
    → ((v : ℕ) → IsTrue (has z v) → IsTurning g x y z v → ⊥)
    → IsFixed g (record { x = x; y = y; given = z })
    → (m : FiniteModel) (h : ℕ → (ℕ → ℕ) → (ℕ → ℕ) → ℕ) (class : ℕ → ℕ → Bool) → IsLeafPair g (has x) (has z) m h class
    → (s : ℕ → ℕ) → IsAssignment m.vertices m.size s → weight_of m (has x) (has z) s ≡ weight_of (with_mechanism m h) (has x) (has z) s

-- where no observation turns, and P(z | do(x)) has a hedge, P(y | do(x), z) isn't identifiable
abbrev pub HedgesExcludeGiven : Type 0
HedgesExcludeGiven = (g : MixedGraph) → IsMixedGraph g → g.vertices ≤ 64 → (x y z : ℕ) → IsConditionalTarget g (record { x = x; y = y; given = z })
    → ((v : ℕ) → IsTrue (has z v) → IsTurning g x y z v → ⊥)
    → (h : Hedge) → IsHedge g x z h → IsFixed g (record { x = x; y = y; given = z }) → ⊥

-- so where the observations that are left have a hedge, the target itself isn't identifiable
abbrev pub HedgesExcludeTurned : Type 0
HedgesExcludeTurned = (g : MixedGraph) → IsMixedGraph g → g.vertices ≤ 64 → (t : PlainTarget) → IsConditionalTarget g t → (x' z' : ℕ) (moved : List ℕ)
    → IsTurned g t x' z' moved
    → (h : Hedge) → IsHedge g x' z' h → IsFixed g t → ⊥

-- and it has no formula without interventions
abbrev pub HedgesExcludeFormula : Type 0
HedgesExcludeFormula = (g : MixedGraph) → IsMixedGraph g → g.vertices ≤ 64 → (t : PlainTarget) → IsConditionalTarget g t → (x' z' : ℕ) (moved : List ℕ)
    → IsTurned g t x' z' moved
    → (h : Hedge) → IsHedge g x' z' h → HasNoFormula g t

-- two positive models that fit the graph, agree on all observations, and give the target two values at some assignment
pub record AreModelsOf (g : MixedGraph) (t : PlainTarget) : Type 0 where
  pub first : FiniteModel
  pub second : FiniteModel
  pub first_fits : Fits g first
  pub second_fits : Fits g second
  pub first_two : ServesTwo first
  pub second_two : ServesTwo second
  pub first_positive : IsPositiveModel first
  pub second_positive : IsPositiveModel second
  pub observed : AgreeObserved first second
  pub differ : DifferOn first second t

-- an open walk shows that the observation of v doesn't turn: in the graph in which rule 2 asks that y and v are separated, they aren't
abbrev pub HasOpenWalkTo : MixedGraph → (x y z v : ℕ) → Type 0
HasOpenWalkTo g x y z v = HasOpenWalk (cut_out (cut_into g (has x)) (has (one v))) (has y) (has (one v)) (λ u. has x u || has (minus z (one v)) u)

-- for each observation there is one
abbrev pub HaveOpenWalks : MixedGraph → (x y z : ℕ) → Type 0
HaveOpenWalks g x y z = (v : ℕ) → IsTrue (has z v) → HasOpenWalkTo g x y z v

-- with these and a hedge for P(z | do(x)) there are two such models of P(y | do(x), z)
abbrev pub HedgesGiveModels : Type 0
HedgesGiveModels = (g : MixedGraph) → IsMixedGraph g → g.vertices ≤ 64 → (x y z : ℕ) → IsConditionalTarget g (record { x = x; y = y; given = z })
    → HaveOpenWalks g x y z
    → (h : Hedge) → IsHedge g x z h → AreModelsOf g (record { x = x; y = y; given = z })

-- so there are two of the target from which those observations are left
abbrev pub HedgesGiveModelsTurned : Type 0
HedgesGiveModelsTurned = (g : MixedGraph) → IsMixedGraph g → g.vertices ≤ 64 → (t : PlainTarget) → IsConditionalTarget g t → (x' z' : ℕ) (moved : List ℕ)
    → IsTurned g t x' z' moved → HaveOpenWalks g x' t.y z'
    → (h : Hedge) → IsHedge g x' z' h → AreModelsOf g t
