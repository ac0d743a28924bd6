-- Laws of formulas: what check accepts; the free variables; values are positive fractions in positive models, and without interventions they come
-- from what is observed.
use Rattle.std.specs.Prelude.{ℕ, ◌≡◌, true, None, All}
use Rattle.mixed_graph.specs.Vocabulary.{has, MixedGraph, IsMixedGraph}
use Rattle.fractions.specs.Vocabulary.{IsEqual, IsPositive}
use Rattle.finite_models.specs.Vocabulary.{AgreeObserved, FiniteModel, Fits, IsAssignment, IsPositiveModel, total}
use Rattle.prob_expr.specs.Tree.{Tree, PlainFormula, PlainTarget}
use Rattle.prob_expr.specs.Terms.{are_terms, is_do_free}
use Rattle.prob_expr.specs.Check.{fault_in}
use Rattle.prob_expr.specs.Free.{free_of}
use Rattle.prob_expr.specs.Fold.{has_factors}
use Rattle.prob_expr.specs.Values.{weights_of, value_of, effect, EqualsEffect}

-- the tree is made of terms, and each product in it has a factor
pub record IsWhole (n : ℕ) (t : Tree) : Type 0 where
  pub terms : are_terms n t ≡ true
  pub factors : has_factors t ≡ true

-- and so are all trees of the formula
pub record IsWholeFormula (n : ℕ) (f : PlainFormula) : Type 0 where
  pub defs : All (IsWhole n) f.defs
  pub main : IsWhole n f.main

-- a formula in which check finds no fault
abbrev pub AcceptedIsWhole : Type 0
AcceptedIsWhole = (n : ℕ) (f : PlainFormula) → fault_in n f ≡ None → IsWholeFormula n f

-- two assignments give the members of a set the same values
abbrev pub AgreeOn : ℕ → (s t : ℕ → ℕ) → Type 0
AgreeOn mask s t = (v : ℕ) → has mask v ≡ true → s v ≡ t v

-- the value of an accepted formula is one at assignments that agree on its free variables, in each model
abbrev pub ValueReadsFree : Type 0
ValueReadsFree = (m : FiniteModel) (f : PlainFormula) → fault_in m.vertices f ≡ None → (s t : ℕ → ℕ) → AgreeOn (free_of f) s t → value_of (weights_of m) f s
    ≡ value_of (weights_of m) f t

-- in a positive model that fits a graph the value of each formula is a fraction above 0
abbrev pub ValuesArePositive : Type 0
ValuesArePositive = (g : MixedGraph) → IsMixedGraph g → (m : FiniteModel) → Fits g m → IsPositiveModel m → (f : PlainFormula) (s : ℕ → ℕ)
    → IsAssignment m.vertices m.size s
    → IsPositive (value_of (weights_of m) f s)

-- and so is each effect
abbrev pub EffectsArePositive : Type 0
EffectsArePositive = (g : MixedGraph) → IsMixedGraph g → (m : FiniteModel) → Fits g m → IsPositiveModel m → (t : PlainTarget) (s : ℕ → ℕ)
    → IsAssignment m.vertices m.size s
    → IsPositive (effect m t s)

-- an effect of which nothing is given is over the weight of all worlds
abbrev pub EffectIsOverTotal : Type 0
EffectIsOverTotal = (m : FiniteModel) (t : PlainTarget) (s : ℕ → ℕ) → t.given ≡ 0 → (effect m t s).bottom ≡ total m

-- a formula without interventions has equal values in two positive models of a graph that agree on what is observed
abbrev pub ObservedFixesValue : Type 0
ObservedFixesValue = (g : MixedGraph) → IsMixedGraph g → (m₁ m₂ : FiniteModel) → Fits g m₁ → Fits g m₂ → IsPositiveModel m₁ → IsPositiveModel m₂
    → AgreeObserved m₁ m₂
    → (f : PlainFormula) → is_do_free f ≡ true → (s : ℕ → ℕ) → IsAssignment m₁.vertices m₁.size s
    → IsEqual (value_of (weights_of m₁) f s) (value_of (weights_of m₂) f s)

-- so where such a formula equals the effect in each positive model, two that agree on what is observed have one effect: none can show that the effect
-- isn't determined
abbrev pub FormulaFixesEffect : Type 0
FormulaFixesEffect = (g : MixedGraph) → IsMixedGraph g → (t : PlainTarget) (f : PlainFormula) → is_do_free f ≡ true → EqualsEffect g t f
    → (m₁ m₂ : FiniteModel) → Fits g m₁ → Fits g m₂ → IsPositiveModel m₁ → IsPositiveModel m₂ → AgreeObserved m₁ m₂
    → (s : ℕ → ℕ) → IsAssignment m₁.vertices m₁.size s → IsEqual (effect m₁ t s) (effect m₂ t s)
