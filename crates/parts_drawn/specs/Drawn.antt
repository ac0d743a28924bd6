-- Counterfactual effects in parts, in the models of a diagram with hidden vertices. Vertices are those of the observed graph, in their new numbers.
use Rattle.std.specs.Prelude.{ℕ, Bool, ◌||◌, List}
use Rattle.mixed_graph.specs.Vocabulary.{has, MixedGraph, union, minus, all}
use Rattle.hedge.specs.Vocabulary.{IsSetOf}
use Rattle.fractions.specs.Vocabulary.{Fraction, div, IsEqual}
use Rattle.finite_models.specs.Vocabulary.{FiniteModel, Fits, IsAssignment}
use Rattle.prob_expr.specs.Vocabulary.{add_over, term_value}
use Rattle.hidden_models.specs.Vocabulary.{IsObservedPositive, set_before, values_before, drawn_weights}
use Rattle.identification_theory.specs.Vocabulary.{AreAncestorsIn}
use Rattle.treated_models.specs.Vocabulary.{effect_among, joined}
use Rattle.treated_id.specs.Vocabulary.{AreAncestors}
use Rattle.nested_models.specs.Vocabulary.{LeadsThrough}
use Rattle.natural_id.specs.Vocabulary.{PlainPart}
use Rattle.natural_drawn.specs.Vocabulary.{EqualsNaturalAsDrawn, drawn_parts_value}
use Rattle.derived_parts.specs.Vocabulary.{PlainDerivedPart}
use Rattle.part_checks.specs.Reading.{AreReadAs, ReadsOwn, ReadsThrough}

-- ---- parts of an effect among the treated

-- P(y under do(x) | x and z as observed) in a model of the diagram as drawn: where x is set, and y and z, have the values s, and x was observed at t
abbrev pub drawn_among_at : (ℕ → Bool) → FiniteModel → (x y z : ℕ) → (s t : ℕ → ℕ) → Fraction
drawn_among_at l w x y z s t = effect_among w (set_before l (has x)) (set_before l (has y)) (set_before l (λ v. has x v || has z v)) (values_before l s)
    (values_before l (joined (has x) s t))

-- the value of the formula of the parts: their product, summed over a set, over P(x, z), all as observed: x at t, and all else at s
abbrev pub drawn_treated_value : (ℕ → Bool) → FiniteModel → (x z summed : ℕ) → List PlainPart → (s t : ℕ → ℕ) → Fraction
drawn_treated_value l w x z summed ps s t =
    div (add_over (has summed) (drawn_weights l w).size (drawn_weights l w).vertices (drawn_parts_value l w x ps s t) (joined (has x) s t))
    (term_value (drawn_weights l w) (union x z) 0 0 (joined (has x) s t))

-- The formula of the parts has the value of that effect in the diagram as drawn: in every model of the graph with its hidden vertices, whatever their
-- mechanisms, that is positive on the observed ones, at each assignment of these, x set at s and observed at t.
abbrev pub EqualsAmongPartsAsDrawn : MixedGraph → (ℕ → Bool) → (x y z summed : ℕ) → List PlainPart → Type 0
EqualsAmongPartsAsDrawn g l x y z summed ps = (w : FiniteModel) → Fits g w → IsObservedPositive l w → (s t : ℕ → ℕ)
    → IsAssignment (drawn_weights l w).vertices (drawn_weights l w).size s → IsAssignment (drawn_weights l w).vertices (drawn_weights l w).size t
    → IsEqual (drawn_treated_value l w x z summed ps s t) (drawn_among_at l w x y z s t)

-- ---- parts with their derivations

-- Derived parts make up the effect among the treated in the diagram as drawn, whose observed graph is q: each reads the treatments in its district as they
-- were observed, and their product is summed over the ancestors of y, x and z that aren't asked for.
abbrev pub MakeUpAmongAsDrawn : MixedGraph → (ℕ → Bool) → MixedGraph → (x y z : ℕ) → List PlainDerivedPart → Type 0
MakeUpAmongAsDrawn g l q x y z ps = (a : ℕ) → AreAncestors q x y z a → (read : List PlainPart) → AreReadAs (ReadsOwn x) ps read
    → EqualsAmongPartsAsDrawn g l x y z (minus a (union (union x z) y)) read

-- Derived parts make up the nested effect: each reads the second values of the treatments with a child in its district that leads to y through m, and their
-- product is summed over the ancestors of y and z outside x that aren't asked for.
abbrev pub MakeUpNestedAsDrawn : MixedGraph → (ℕ → Bool) → MixedGraph → (x m y z : ℕ) → List PlainDerivedPart → Type 0
MakeUpNestedAsDrawn g l q x m y z ps = (d through : ℕ) → AreAncestorsIn q (minus (all q.vertices) x) (union y z) d
    → IsSetOf through (LeadsThrough q (has x) (has m) (has y)) → (read : List PlainPart) → AreReadAs (ReadsThrough q x through) ps read
    → EqualsNaturalAsDrawn g l x m y z (minus d (union y z)) read
