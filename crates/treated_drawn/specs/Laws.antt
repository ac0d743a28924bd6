-- What is true of the effect among those for whom values were observed in the diagram as drawn.
use Rattle.std.specs.Prelude.{ℕ, ◌≡◌, ◌<◌, Bool, true, false, ◌||◌, List, ◌∷◌}
use Rattle.mixed_graph.specs.Vocabulary.{has, MixedGraph, IsMixedGraph, IsDirectedPath, union}
use Rattle.finite_models.specs.Vocabulary.{FiniteModel, Fits, ServesTwo}
use Rattle.latent_projection.specs.Vocabulary.{IsObserved}
use Rattle.prob_expr.specs.Vocabulary.{PlainFormula, effect_on}
use Rattle.hidden_models.specs.Vocabulary.{SharesWorlds, NotIdentifiableAsDrawn}
use Rattle.treated_models.specs.Vocabulary.{FormulaNamesOnce, DifferAmong, EqualsAmong}
use Rattle.treated_drawn.specs.Drawn.{FoldsBoth, EqualsAmongAsDrawn, IsLostAmongAsDrawn, IsUnfixedAmongAsDrawn}

-- a model of the observed graph q that folds m, two worlds at once
pub record HasBothFolded (q : MixedGraph) (l : ℕ → Bool) (m : FiniteModel) : Type 0 where
  pub folded : FiniteModel
  pub fits : Fits q folded
  pub folds : FoldsBoth l m folded

-- every model of a graph with hidden vertices has one of the observed graph that folds it, two worlds at once
abbrev pub EachHasBothFolded : Type 0
EachHasBothFolded = (g : MixedGraph) → IsMixedGraph g → (l : ℕ → Bool) (q : MixedGraph) → IsObserved g l q → (m : FiniteModel) → Fits g m
    → HasBothFolded q l m

-- a formula that is right in every positive model of the observed graph q is right in the diagram as drawn, where its terms are observed
abbrev pub RightAmongIsDrawn : Type 0
RightAmongIsDrawn = (g : MixedGraph) → IsMixedGraph g → (l : ℕ → Bool) (q : MixedGraph) → IsObserved g l q → (x y z : ℕ) (f : PlainFormula)
    → FormulaNamesOnce q.vertices x f → EqualsAmong q x y z f → EqualsAmongAsDrawn g l x y z f

-- x, y and z are sets of vertices no two of which meet, and no directed path of two or more vertices leads from a member of x to one of x or z
pub record IsAsked (q : MixedGraph) (x y z : ℕ) : Type 0 where
  pub x_low : (v : ℕ) → has x v ≡ true → v < q.vertices
  pub z_low : (v : ℕ) → has z v ≡ true → v < q.vertices
  pub y_off_x : (v : ℕ) → has y v ≡ true → has x v ≡ false
  pub y_off_z : (v : ℕ) → has y v ≡ true → has z v ≡ false
  pub z_off_x : (v : ℕ) → has z v ≡ true → has x v ≡ false
  pub before : (p v : ℕ) (path : List ℕ) (end : ℕ) → has x p ≡ true → IsDirectedPath q p (v ∷ path) end → (has x end || has z end) ≡ true → ⊥

-- where the joint effect of x on y and z isn't identifiable in the diagram as drawn, the effect among those whose x was observed isn't either
abbrev pub JointLostIsDrawn : Type 0
JointLostIsDrawn = (g : MixedGraph) → IsMixedGraph g → (l : ℕ → Bool) (q : MixedGraph) → IsObserved g l q → (x y z : ℕ) → IsAsked q x y z
    → NotIdentifiableAsDrawn g l (effect_on x (union y z)) → IsLostAmongAsDrawn g l q.vertices x y z

-- a model of the graph with hidden vertices that m, a model of its observed graph, folds, two worlds at once, and shares its worlds with
pub record IsBothFoldedFrom (g : MixedGraph) (l : ℕ → Bool) (m : FiniteModel) : Type 0 where
  pub drawn : FiniteModel
  pub fits : Fits g drawn
  pub folds : FoldsBoth l drawn m
  pub shares : SharesWorlds l drawn m

-- every model of the observed graph each of whose causes serves one vertex or two folds such a one
abbrev pub EachIsBothFolded : Type 0
EachIsBothFolded = (g : MixedGraph) → IsMixedGraph g → (l : ℕ → Bool) (q : MixedGraph) → IsObserved g l q → (m : FiniteModel) → Fits q m → ServesTwo m
    → IsBothFoldedFrom g l m

-- so two models of the observed graph that differ on the effect among those whose x was observed show that it isn't fixed in the diagram as drawn
abbrev pub DifferingIsDrawn : Type 0
DifferingIsDrawn = (g : MixedGraph) → IsMixedGraph g → (l : ℕ → Bool) (q : MixedGraph) → IsObserved g l q → (x y z : ℕ)
    → ((v : ℕ) → has x v ≡ true → v < q.vertices) → DifferAmong q x y z → IsUnfixedAmongAsDrawn g l q.vertices x y z
