-- Models of the diagram as drawn that a model of the observed graph folds, and what one or two of them show.
use Rattle.std.specs.Prelude.{ℕ, ◌*◌, ◌≡◌, ◌<◌, Bool, true, false, List}
use Rattle.mixed_graph.specs.Vocabulary.{has, MixedGraph}
use Rattle.fractions.specs.Vocabulary.{IsEqual}
use Rattle.finite_models.specs.Vocabulary.{FiniteModel, Fits, IsAssignment, solution, intervene, total}
use Rattle.prob_expr.specs.Vocabulary.{is_allowed, is_do_free, is_listed, PlainFormula, PlainTarget, term_value, value_of}
use Rattle.hidden_models.specs.Folding.{Folds, IsObservedPositive, new_number, set_before, values_before, values_after, drawn_weights, drawn_effect}
use Rattle.hidden_models.specs.FoldingLaws.{EqualsAsDrawn}

-- m' has the causes of m, and in each world, under every intervention on observed vertices, an observed vertex has one value in both; so each event of
-- several interventions at once has one probability in both
pub record SharesWorlds (l : ℕ → Bool) (m m' : FiniteModel) : Type 0 where
  pub causes : m'.causes ≡ m.causes
  pub values : m'.values ≡ m.values
  pub weight : m'.weight ≡ m.weight
  pub worlds : (b : ℕ → Bool) (s : ℕ → ℕ) → IsAssignment m'.vertices m'.size s → (u : ℕ → ℕ) → IsAssignment m'.causes m'.values u
      → (v : ℕ) → v < m.vertices → l v ≡ false
      → solution (intervene m (set_before l b) (values_before l s)) u v ≡ solution (intervene m' b s) u (new_number l v)

-- a model of the graph that m, a model of its observed graph, folds, and shares its worlds with
pub record IsFoldedFrom (g : MixedGraph) (l : ℕ → Bool) (m : FiniteModel) : Type 0 where
  pub drawn : FiniteModel
  pub fits : Fits g drawn
  pub folds : Folds l drawn m
  pub shares : SharesWorlds l drawn m

-- two models of the diagram as drawn have the observed vertices with equal sizes and, under an intervention on those of z, in their new numbers,
-- equal probabilities of what is observed
pub record AgreeUnderAsDrawn (l z : ℕ → Bool) (m₁ m₂ : FiniteModel) : Type 0 where
  pub vertices : (drawn_weights l m₁).vertices ≡ (drawn_weights l m₂).vertices
  pub sizes : (k : ℕ) → k < (drawn_weights l m₁).vertices → (drawn_weights l m₁).size k ≡ (drawn_weights l m₂).size k
  pub weights : (s : ℕ → ℕ) → IsAssignment (drawn_weights l m₁).vertices (drawn_weights l m₁).size s
      → (drawn_weights l m₁).weight z (λ k. true) s * total m₂ ≡ (drawn_weights l m₂).weight z (λ k. true) s * total m₁

-- their observed probabilities are equal: those under no intervention
abbrev pub AgreeAsDrawn : (ℕ → Bool) → (m₁ m₂ : FiniteModel) → Type 0
AgreeAsDrawn l m₁ m₂ = AgreeUnderAsDrawn l (λ k. false) m₁ m₂

-- values of the observed vertices, in their new numbers, at which the effect has two values
pub record DifferOnAsDrawn (l : ℕ → Bool) (m₁ m₂ : FiniteModel) (t : PlainTarget) : Type 0 where
  pub at : ℕ → ℕ
  pub within : IsAssignment (drawn_weights l m₁).vertices (drawn_weights l m₁).size at
  pub unequal : IsEqual (term_value (drawn_weights l m₁) t.y t.x t.given at) (term_value (drawn_weights l m₂) t.y t.x t.given at) → ⊥

-- two models of the diagram as drawn, positive on the observed vertices, have equal observed probabilities and, under every value of x, different
-- effects; so no formula without interventions equals the effect in all of them
pub record NotIdentifiableAsDrawn (g : MixedGraph) (l : ℕ → Bool) (t : PlainTarget) : Type 0 where
  pub first : FiniteModel
  pub second : FiniteModel
  pub first_fits : Fits g first
  pub second_fits : Fits g second
  pub first_positive : IsObservedPositive l first
  pub second_positive : IsObservedPositive l second
  pub observed : AgreeAsDrawn l first second
  pub effects : (a : ℕ → ℕ) → IsAssignment (drawn_weights l first).vertices (drawn_weights l first).size a
      → (d : DifferOnAsDrawn l first second t) × ((v : ℕ) → has t.x v ≡ true → d.at v ≡ a v)
  pub no_formula : (f : PlainFormula) → is_do_free f ≡ true → EqualsAsDrawn g l t f → ⊥

-- two such models that agree under each experiment too; so no formula whose terms are observed or under an experiment equals the effect in all of them
pub record NotIdentifiableOverAsDrawn (g : MixedGraph) (l : ℕ → Bool) (zs : List ℕ) (t : PlainTarget) : Type 0 where
  pub shown : NotIdentifiableAsDrawn g l t
  pub under : (z : ℕ) → is_listed z zs ≡ true → AgreeUnderAsDrawn l (has z) shown.first shown.second
  pub no_formula_over : (f : PlainFormula) → is_allowed zs f ≡ true → EqualsAsDrawn g l t f → ⊥

-- in some model of the diagram as drawn, positive on the observed vertices, a formula isn't the effect of the target, at some values of all vertices;
-- the values of its terms are taken in that model
pub record FailsSomewhereAsDrawn (g : MixedGraph) (l : ℕ → Bool) (t : PlainTarget) (f : PlainFormula) : Type 0 where
  pub model : FiniteModel
  pub fits : Fits g model
  pub positive : IsObservedPositive l model
  pub at : ℕ → ℕ
  pub within : IsAssignment model.vertices model.size at
  pub unequal : IsEqual (value_of (drawn_weights l model) f (values_after l model.vertices at)) (drawn_effect l model t at) → ⊥
