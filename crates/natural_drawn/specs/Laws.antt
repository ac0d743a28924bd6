-- What is true of nested effects in the diagram as drawn.
use Rattle.std.specs.Prelude.{ℕ, ◌≡◌, ◌<◌, Bool, true, List}
use Rattle.mixed_graph.specs.Vocabulary.{has, MixedGraph, IsMixedGraph, union}
use Rattle.fractions.specs.Vocabulary.{IsEqual}
use Rattle.finite_models.specs.Vocabulary.{FiniteModel, Fits, IsAssignment, IsPositiveModel, total}
use Rattle.latent_projection.specs.Vocabulary.{IsObserved}
use Rattle.prob_expr.specs.Vocabulary.{AreProportional, PlainFormula, Weights, effect_on, weights_of}
use Rattle.hidden_models.specs.Vocabulary.{IsMatchedAsDrawn, IsObservedPositive, NotIdentifiableAsDrawn, drawn_weights}
use Rattle.treated_models.specs.Vocabulary.{FormulaNamesOnce}
use Rattle.nested_models.specs.Vocabulary.{nested_effect, IsNestedQuery, HasNoIndirectPath, HasNoDirectPath, EqualsNested}
use Rattle.natural_id.specs.Vocabulary.{PlainPart, EqualsNatural}
use Rattle.twisted_models.specs.Vocabulary.{DifferOnNested}
use Rattle.natural_drawn.specs.Drawn.{FoldsNested, drawn_nested_effect, EqualsNaturalAsDrawn, EqualsNestedAsDrawn, IsLostNestedAsDrawn, DifferOnNestedAsDrawn}
use Rattle.natural_drawn.specs.Drawn.{IsIndirectNilAsDrawn, IsDirectNilAsDrawn}

-- a model of the observed graph q that folds w, nested events too
pub record HasNestedFolded (q : MixedGraph) (l : ℕ → Bool) (w : FiniteModel) : Type 0 where
  pub folded : FiniteModel
  pub fits : Fits q folded
  pub folds : FoldsNested l w folded

-- every model of a graph with hidden vertices has one of the observed graph that folds it, nested events too
abbrev pub EachHasNestedFolded : Type 0
EachHasNestedFolded = (g : MixedGraph) → IsMixedGraph g → (l : ℕ → Bool) (q : MixedGraph) → IsObserved g l q → (w : FiniteModel) → Fits g w
    → HasNestedFolded q l w

-- a positive model of the observed graph q with the values of observed vertices and the nested effects of w, whose observed weights are these, up to one factor
pub record HasNestedMatched (q : MixedGraph) (l : ℕ → Bool) (w : FiniteModel) (used : ℕ → Bool) (v : Weights) (all : ℕ) : Type 0 where
  pub folded : FiniteModel
  pub fits : Fits q folded
  pub positive : IsPositiveModel folded
  pub matched : AreProportional used v all (weights_of folded) (total folded)
  pub same : (x m y z : ℕ) (s t : ℕ → ℕ) → IsAssignment folded.vertices folded.size s → IsAssignment folded.vertices folded.size t
      → IsEqual (nested_effect folded (has x) (has m) (has y) (has z) s t) (drawn_nested_effect l w x m y z s t)
  pub levels : (s : ℕ → ℕ) → IsAssignment (drawn_weights l w).vertices (drawn_weights l w).size s → IsAssignment folded.vertices folded.size s

-- every model of a graph with hidden vertices that is positive on the observed ones, and whose observed weights are these, has one
abbrev pub EachHasNestedMatched : Type 0
EachHasNestedMatched = (g : MixedGraph) → IsMixedGraph g → (l : ℕ → Bool) (q : MixedGraph) → IsObserved g l q → (w : FiniteModel) → Fits g w
    → IsObservedPositive l w → (used : ℕ → Bool) (v : Weights) (all : ℕ) → IsMatchedAsDrawn l used v all w → HasNestedMatched q l w used v all

-- a formula of parts that equals a nested effect in every positive model of the observed graph q equals it in the diagram as drawn
abbrev pub RightPartsAreDrawn : Type 0
RightPartsAreDrawn = (g : MixedGraph) → IsMixedGraph g → (l : ℕ → Bool) (q : MixedGraph) → IsObserved g l q → (x m y z summed : ℕ) (ps : List PlainPart)
    → EqualsNatural q x m y z summed ps → EqualsNaturalAsDrawn g l x m y z summed ps

-- so does a formula over names and primed names, where its terms are observed
abbrev pub RightNestedIsDrawn : Type 0
RightNestedIsDrawn = (g : MixedGraph) → IsMixedGraph g → (l : ℕ → Bool) (q : MixedGraph) → IsObserved g l q → (x m y z : ℕ) (f : PlainFormula)
    → FormulaNamesOnce q.vertices x f → EqualsNested q x m y z f → EqualsNestedAsDrawn g l x m y z f

-- where the joint effect of x on y and z isn't identifiable in the diagram as drawn, the nested effect isn't either
abbrev pub NestedLostIsDrawn : Type 0
NestedLostIsDrawn = (g : MixedGraph) → IsMixedGraph g → (l : ℕ → Bool) (q : MixedGraph) → IsObserved g l q → (x m y z : ℕ)
    → IsNestedQuery q (has x) (has m) (has y) (has z) → NotIdentifiableAsDrawn g l (effect_on x (union y z)) → IsLostNestedAsDrawn g l q.vertices x m y z

-- and where two models of the observed graph show that a nested effect isn't, two of the diagram as drawn do
abbrev pub NestedDifferenceIsDrawn : Type 0
NestedDifferenceIsDrawn = (g : MixedGraph) → IsMixedGraph g → (l : ℕ → Bool) (q : MixedGraph) → IsObserved g l q → (x m y z : ℕ)
    → ((v : ℕ) → has x v ≡ true → v < q.vertices) → DifferOnNested q x m y z → DifferOnNestedAsDrawn g l q.vertices x m y z

-- where no directed path of the observed graph leads from x through m to y, the indirect effect is nil in the diagram as drawn
abbrev pub NoIndirectPathIsDrawn : Type 0
NoIndirectPathIsDrawn = (g : MixedGraph) → IsMixedGraph g → (l : ℕ → Bool) (q : MixedGraph) → IsObserved g l q → (x m y z : ℕ)
    → IsNestedQuery q (has x) (has m) (has y) (has z) → HasNoIndirectPath q (has x) (has m) (has y) → IsIndirectNilAsDrawn g l x m y z

-- where none leads there past m, the direct effect is
abbrev pub NoDirectPathIsDrawn : Type 0
NoDirectPathIsDrawn = (g : MixedGraph) → IsMixedGraph g → (l : ℕ → Bool) (q : MixedGraph) → IsObserved g l q → (x m y z : ℕ)
    → IsNestedQuery q (has x) (has m) (has y) (has z) → HasNoDirectPath q (has x) (has m) (has y) → IsDirectNilAsDrawn g l x m y z
