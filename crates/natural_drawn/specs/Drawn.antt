-- Nested effects, what y would be under do(x), were m as under another do(x) (Robins and Greenland 1992; Pearl 2001; Causality, chapter 4.5), in the
-- models of a diagram with hidden vertices. Vertices and names are those of the observed graph, in their new numbers.
use Rattle.std.specs.Prelude.{ℕ, ◌*◌, ◌≡◌, Bool, ◌||◌, if◌then◌else◌, List, [], ◌∷◌}
use Rattle.mixed_graph.specs.Vocabulary.{has, MixedGraph, union}
use Rattle.fractions.specs.Vocabulary.{Fraction, over, mul, div, IsEqual}
use Rattle.finite_models.specs.Vocabulary.{FiniteModel, Fits, IsAssignment, total}
use Rattle.prob_expr.specs.Vocabulary.{PlainFormula, effect_on, value_of, add_over, term_value}
use Rattle.hidden_models.specs.Vocabulary.{IsObservedPositive, set_before, values_before, drawn_weights, AgreeAsDrawn, NotIdentifiableAsDrawn}
use Rattle.treated_models.specs.Vocabulary.{FormulaNamesOnce, as_observed, joined}
use Rattle.treated_drawn.specs.Vocabulary.{observed_count, drawn_with_primes, FoldsBoth}
use Rattle.nested_models.specs.Vocabulary.{weight_of_nested, nested_effect}
use Rattle.natural_id.specs.Vocabulary.{PlainPart}

-- ---- nested events

-- in a model of the diagram as drawn the weight of the worlds in which y has the values s under do(x) at s, where m is set too, to the values that it has
-- in the same world under do(x) at t; and z has without intervention the values s
abbrev pub drawn_nested : (ℕ → Bool) → FiniteModel → (x m y z : ℕ → Bool) → (s t : ℕ → ℕ) → ℕ
drawn_nested l w x m y z s t =
    weight_of_nested w (set_before l x) (set_before l m) (set_before l y) (set_before l z) (values_before l s) (values_before l t)

-- w' folds w, and gives each event of two worlds and each nested event its probability
pub record FoldsNested (l : ℕ → Bool) (w w' : FiniteModel) : Type 0 where
  pub both : FoldsBoth l w w'
  pub nested : (x m y z : ℕ → Bool) (s t : ℕ → ℕ) → IsAssignment w'.vertices w'.size s → IsAssignment w'.vertices w'.size t
      → drawn_nested l w x m y z s t * total w' ≡ weight_of_nested w' x m y z s t * total w

-- P(y[x, m[x']] | z) in a model of the diagram as drawn, x at s and x' at t
abbrev pub drawn_nested_effect : (ℕ → Bool) → FiniteModel → (x m y z : ℕ) → (s t : ℕ → ℕ) → Fraction
drawn_nested_effect l w x m y z s t =
    nested_effect w (set_before l (has x)) (set_before l (has m)) (set_before l (has y)) (set_before l (has z)) (values_before l s) (values_before l t)

-- ---- formulas

-- the product of the values of the parts at c, each with x at the values that it reads; their terms are taken in that model
abbrev pub drawn_parts_value : (ℕ → Bool) → FiniteModel → (x : ℕ) → List PlainPart → (s t c : ℕ → ℕ) → Fraction
drawn_parts_value l w x [] s t c = over 1 1
drawn_parts_value l w x (p ∷ ps) s t c =
    mul (value_of (drawn_weights l w) p.formula (λ v. if has x v then (if has p.second v then t v else s v) else c v)) (drawn_parts_value l w x ps s t c)

-- the value of the formula of the parts: that product, summed over a set, over P(z)
abbrev pub drawn_natural_value : (ℕ → Bool) → FiniteModel → (x z summed : ℕ) → List PlainPart → (s t : ℕ → ℕ) → Fraction
drawn_natural_value l w x z summed ps s t =
    div (add_over (has summed) (drawn_weights l w).size (drawn_weights l w).vertices (drawn_parts_value l w x ps s t) s)
    (term_value (drawn_weights l w) z 0 0 s)

-- The formula of the parts has the value of P(y[x, m[x']] | z) in the diagram as drawn: in every model of the graph with its hidden vertices, whatever
-- their mechanisms, that is positive on the observed ones, at each assignment of these, x at s and x' at t.
abbrev pub EqualsNaturalAsDrawn : MixedGraph → (ℕ → Bool) → (x m y z summed : ℕ) → List PlainPart → Type 0
EqualsNaturalAsDrawn g l x m y z summed ps = (w : FiniteModel) → Fits g w → IsObservedPositive l w → (s t : ℕ → ℕ)
    → IsAssignment (drawn_weights l w).vertices (drawn_weights l w).size s → IsAssignment (drawn_weights l w).vertices (drawn_weights l w).size t
    → IsEqual (drawn_natural_value l w x z summed ps s t) (drawn_nested_effect l w x m y z s t)

-- so has a formula over names and primed names: x has the first value at its own names, and the second at its primed names
abbrev pub EqualsNestedAsDrawn : MixedGraph → (ℕ → Bool) → (x m y z : ℕ) → PlainFormula → Type 0
EqualsNestedAsDrawn g l x m y z f = (w : FiniteModel) → Fits g w → IsObservedPositive l w → (s : ℕ → ℕ)
    → IsAssignment (drawn_with_primes l w x).vertices (drawn_with_primes l w x).size s
    → IsEqual (value_of (drawn_with_primes l w x) f s) (drawn_nested_effect l w x m y z s (as_observed (observed_count l w) x s))

-- ---- effects without a formula

-- no formula over names and primed names, whose terms are observed, equals it; n vertices are observed
abbrev pub HasNoFormulaNestedAsDrawn : MixedGraph → (ℕ → Bool) → (n x m y z : ℕ) → Type 0
HasNoFormulaNestedAsDrawn g l n x m y z = (f : PlainFormula) → FormulaNamesOnce n x f → EqualsNestedAsDrawn g l x m y z f → ⊥

-- values of the observed vertices, x at the first and x' at the second, at which two models of the diagram as drawn have two nested effects
pub record DifferNestedAsDrawn (l : ℕ → Bool) (w₁ w₂ : FiniteModel) (x m y z : ℕ) : Type 0 where
  pub first : ℕ → ℕ
  pub second : ℕ → ℕ
  pub first_within : IsAssignment (drawn_weights l w₁).vertices (drawn_weights l w₁).size first
  pub second_within : IsAssignment (drawn_weights l w₁).vertices (drawn_weights l w₁).size second
  pub unequal : IsEqual (drawn_nested_effect l w₁ x m y z first second) (drawn_nested_effect l w₂ x m y z first second) → ⊥

-- The joint effect of x on y and z isn't identifiable in the diagram as drawn; its two models, which agree on all observations, differ on the nested effect
-- too, and no formula equals it.
pub record IsLostNestedAsDrawn (g : MixedGraph) (l : ℕ → Bool) (n x m y z : ℕ) : Type 0 where
  pub joint : NotIdentifiableAsDrawn g l (effect_on x (union y z))
  pub differ : DifferNestedAsDrawn l joint.first joint.second x m y z
  pub no_formula : HasNoFormulaNestedAsDrawn g l n x m y z

-- Two models of the diagram as drawn, positive on the observed vertices, have equal observed probabilities and, at some two values of x, two nested
-- effects; so no formula over names and primed names, whose terms are observed, equals it in all of them.
pub record DifferOnNestedAsDrawn (g : MixedGraph) (l : ℕ → Bool) (n x m y z : ℕ) : Type 0 where
  pub first : FiniteModel
  pub second : FiniteModel
  pub first_fits : Fits g first
  pub second_fits : Fits g second
  pub first_positive : IsObservedPositive l first
  pub second_positive : IsObservedPositive l second
  pub observed : AgreeAsDrawn l first second
  pub differ : DifferNestedAsDrawn l first second x m y z
  pub no_formula : HasNoFormulaNestedAsDrawn g l n x m y z

-- ---- effects that are nil

-- in each model of the diagram as drawn, positive or not, the nested effect is that of x on y and z, whatever the second value of x is
abbrev pub IsIndirectNilAsDrawn : MixedGraph → (ℕ → Bool) → (x m y z : ℕ) → Type 0
IsIndirectNilAsDrawn g l x m y z = (w : FiniteModel) → Fits g w → (s t : ℕ → ℕ) → IsAssignment (drawn_weights l w).vertices (drawn_weights l w).size s
    → IsAssignment (drawn_weights l w).vertices (drawn_weights l w).size t
    → drawn_nested l w (has x) (has m) (has y) (has z) s t ≡ (drawn_weights l w).weight (has x) (λ v. has y v || has z v) s

-- in each it is that of x at its second value on y and z, whatever the first is
abbrev pub IsDirectNilAsDrawn : MixedGraph → (ℕ → Bool) → (x m y z : ℕ) → Type 0
IsDirectNilAsDrawn g l x m y z = (w : FiniteModel) → Fits g w → (s t : ℕ → ℕ) → IsAssignment (drawn_weights l w).vertices (drawn_weights l w).size s
    → IsAssignment (drawn_weights l w).vertices (drawn_weights l w).size t
    → drawn_nested l w (has x) (has m) (has y) (has z) s t ≡ (drawn_weights l w).weight (has x) (λ v. has y v || has z v) (joined (has x) s t)
