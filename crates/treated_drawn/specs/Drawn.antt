-- The effect among those for whom values were observed, in the models of a diagram with hidden vertices. Vertices and names are those of the observed
-- graph, in their new numbers.
use Rattle.std.specs.Prelude.{ℕ, ◌*◌, ◌≡◌, Bool, ◌||◌, length, slice_index}
use Rattle.mixed_graph.specs.Vocabulary.{has, MixedGraph, union}
use Rattle.fractions.specs.Vocabulary.{Fraction, IsEqual}
use Rattle.finite_models.specs.Vocabulary.{FiniteModel, Fits, IsAssignment, total}
use Rattle.latent_projection.specs.Vocabulary.{observed_below}
use Rattle.prob_expr.specs.Vocabulary.{PlainFormula, effect_on, Weights, value_of}
use Rattle.hidden_models.specs.Vocabulary.{Folds, IsObservedPositive, set_before, values_before, NotIdentifiableAsDrawn, AgreeAsDrawn}
use Rattle.treated_models.specs.Vocabulary.{FormulaNamesOnce, name_count, vertex_of, as_observed, plain_in, primed_in, weight_of_both, effect_among}

-- how many observed vertices the model has
abbrev pub observed_count : (ℕ → Bool) → FiniteModel → ℕ
observed_count l m = length (observed_below l m.vertices)

-- in a model of the diagram as drawn the weight of the worlds in which y has under do(x) the values s, and o has without intervention the values t
abbrev pub drawn_both : (ℕ → Bool) → FiniteModel → (x y o : ℕ → Bool) → (s t : ℕ → ℕ) → ℕ
drawn_both l m x y o s t = weight_of_both m (set_before l x) (set_before l y) (set_before l o) (values_before l s) (values_before l t)

-- m' folds m, and gives each such event of two worlds its probability
pub record FoldsBoth (l : ℕ → Bool) (m m' : FiniteModel) : Type 0 where
  pub folds : Folds l m m'
  pub both : (x y o : ℕ → Bool) (s t : ℕ → ℕ) → IsAssignment m'.vertices m'.size s → IsAssignment m'.vertices m'.size t
      → drawn_both l m x y o s t * total m' ≡ weight_of_both m' x y o s t * total m

-- the weights of a model of the diagram as drawn over both kinds of names: own names are taken under the intervention, primed names without it
abbrev pub drawn_with_primes : (ℕ → Bool) → FiniteModel → ℕ → Weights
drawn_with_primes l m x = record {
  vertices = name_count (observed_count l m) x;
  size = λ k. m.size (slice_index (observed_below l m.vertices) (vertex_of (observed_count l m) x k));
  weight = λ b a s. drawn_both l m b (plain_in (observed_count l m) a) (primed_in (observed_count l m) x a) s (as_observed (observed_count l m) x s);
}

-- P(y under do(x) | x and z as observed) in it
abbrev pub drawn_among : (ℕ → Bool) → FiniteModel → (x y z : ℕ) → (ℕ → ℕ) → Fraction
drawn_among l m x y z s = effect_among m (set_before l (has x)) (set_before l (has y)) (set_before l (λ v. has x v || has z v)) (values_before l s)
    (values_before l (as_observed (observed_count l m) x s))

-- The formula has the value of that effect in the diagram as drawn: in every model of the graph with its hidden vertices, whatever their mechanisms,
-- that is positive on the observed ones, at each assignment of values to names and primed names. The values of its terms are taken in that model.
abbrev pub EqualsAmongAsDrawn : MixedGraph → (ℕ → Bool) → (x y z : ℕ) → PlainFormula → Type 0
EqualsAmongAsDrawn g l x y z f = (m : FiniteModel) → Fits g m → IsObservedPositive l m → (s : ℕ → ℕ)
    → IsAssignment (drawn_with_primes l m x).vertices (drawn_with_primes l m x).size s
    → IsEqual (value_of (drawn_with_primes l m x) f s) (drawn_among l m x y z s)

-- no formula over names and primed names, whose terms are observed, equals the effect among those whose x was observed; n vertices are observed
abbrev pub HasNoFormulaAmongAsDrawn : MixedGraph → (ℕ → Bool) → (n x y z : ℕ) → Type 0
HasNoFormulaAmongAsDrawn g l n x y z = (f : PlainFormula) → FormulaNamesOnce n x f → EqualsAmongAsDrawn g l x y z f → ⊥

-- in two models of the diagram as drawn the effect among those whose x was observed isn't one at all values of names
abbrev pub DifferAmongAsDrawn : (ℕ → Bool) → (m₁ m₂ : FiniteModel) → (x y z : ℕ) → Type 0
DifferAmongAsDrawn l m₁ m₂ x y z = ((s : ℕ → ℕ) → IsAssignment (drawn_with_primes l m₁ x).vertices (drawn_with_primes l m₁ x).size s
    → IsEqual (drawn_among l m₁ x y z s) (drawn_among l m₂ x y z s)) → ⊥

-- The joint effect of x on y and z isn't identifiable in the diagram as drawn; its two models, which agree on all observations, differ among those
-- whose x was observed too, and no formula equals the effect among these.
pub record IsLostAmongAsDrawn (g : MixedGraph) (l : ℕ → Bool) (n x y z : ℕ) : Type 0 where
  pub joint : NotIdentifiableAsDrawn g l (effect_on x (union y z))
  pub differ : DifferAmongAsDrawn l joint.first joint.second x y z
  pub no_formula : HasNoFormulaAmongAsDrawn g l n x y z

-- What is observed doesn't fix the effect among those whose x was observed: two models of the diagram as drawn, positive on the observed vertices, agree on
-- all observations and differ there, and no formula equals it.
pub record IsUnfixedAmongAsDrawn (g : MixedGraph) (l : ℕ → Bool) (n x y z : ℕ) : Type 0 where
  pub first : FiniteModel
  pub second : FiniteModel
  pub first_fits : Fits g first
  pub second_fits : Fits g second
  pub first_positive : IsObservedPositive l first
  pub second_positive : IsObservedPositive l second
  pub observed : AgreeAsDrawn l first second
  pub differ : DifferAmongAsDrawn l first second x y z
  pub no_formula : HasNoFormulaAmongAsDrawn g l n x y z
