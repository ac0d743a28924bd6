-- What is proved of the procedure over experiments.
use Rattle.std.specs.Prelude.{ℕ, ◌≡◌, true, List, None, IsTrue}
use Rattle.mixed_graph.specs.Vocabulary.{MixedGraph, IsMixedGraph}
use Rattle.hedge.specs.Vocabulary.{AreSetsOfHedge}
use Rattle.prob_expr.specs.Vocabulary.{fault_in, PlainFormula}
use Rattle.do_derivation.specs.Accepts.{Accepts}
use Rattle.do_derivation.specs.Vocabulary.{are_sets, PlainDerivation}
use Rattle.identification_theory.specs.Vocabulary.{is_plan_within, are_lemmas_within, IsTarget, IsIdentified, is_tree_within, are_defs_within, AreRoots}
use Rattle.surrogates.specs.Surrogates.{IsSurrogate, IsSurrogateBySteps, IsStoppedWith, IsFirstBlockedFor, SomeBlocked}

-- The derivation is accepted for P(y | do(x)) and the formula, whose terms are observed or under an experiment. The steps of its main nest at most 14
-- deep, those of a lemma at most 10.
pub record IsAcceptedWith (g : MixedGraph) (zs : List ℕ) (x y : ℕ) (f : PlainFormula) (t : PlainDerivation) : Type 0 where
  pub accepted : Accepts g zs (record { x = x; y = y; given = 0 }) f t
  pub main_deep : IsTrue (is_plan_within 14 t.main)
  pub lemmas_deep : IsTrue (are_lemmas_within 10 t.lemmas)

-- a formula with a derivation of the procedure is the one over experiments
abbrev pub DerivedIsSurrogate : Type 0
DerivedIsSurrogate = (g : MixedGraph) (zs : List ℕ) (x y : ℕ) (f : PlainFormula) (t : PlainDerivation) → IsSurrogateBySteps g zs x y f t
    → IsSurrogate g zs x y f

-- its derivation is accepted
abbrev pub SurrogateIsAccepted : Type 0
SurrogateIsAccepted = (g : MixedGraph) → IsMixedGraph g → (zs : List ℕ) → are_sets g.vertices zs ≡ true → (x y : ℕ) → IsTarget g x y
    → (f : PlainFormula) (t : PlainDerivation) → IsSurrogateBySteps g zs x y f t → IsAcceptedWith g zs x y f t

-- it has no fault
abbrev pub SurrogateIsFormed : Type 0
SurrogateIsFormed = (g : MixedGraph) → IsMixedGraph g → (zs : List ℕ) → are_sets g.vertices zs ≡ true → (x y : ℕ) → IsTarget g x y → (f : PlainFormula)
    → IsSurrogate g zs x y f → fault_in g.vertices f ≡ None

-- its nodes nest at most 7 deep in main, and at most 5 in a definition, for any number of vertices and experiments
abbrev pub SurrogateIsShallow : Type 0
SurrogateIsShallow = (g : MixedGraph) (zs : List ℕ) (x y : ℕ) (f : PlainFormula) → IsSurrogate g zs x y f
    → IsTrue (are_defs_within 5 f.defs) × IsTrue (is_tree_within 7 f.main)

-- where the procedure stops there is a hedge for the effect
abbrev pub StopHasHedge : Type 0
StopHasHedge = (g : MixedGraph) → IsMixedGraph g → (zs : List ℕ) (x y small big roots : ℕ) → IsTarget g x y → IsStoppedWith g zs x y small big
    → AreRoots g small roots → AreSetsOfHedge g x y big small roots

-- and the district is the first that is blocked
abbrev pub StopIsFirstBlocked : Type 0
StopIsFirstBlocked = (g : MixedGraph) → IsMixedGraph g → (zs : List ℕ) (x y small big roots : ℕ) → IsTarget g x y → IsStoppedWith g zs x y small big
    → AreRoots g small roots → IsFirstBlockedFor g zs x y small

-- where a district is blocked there is no formula
abbrev pub BlockedExcludesFormula : Type 0
BlockedExcludesFormula = (g : MixedGraph) → IsMixedGraph g → (zs : List ℕ) (x y : ℕ) → IsTarget g x y → SomeBlocked g zs x y → (f : PlainFormula)
    → IsSurrogate g zs x y f → ⊥

-- there is at most one formula
abbrev pub OneSurrogate : Type 0
OneSurrogate = (g : MixedGraph) (zs : List ℕ) (x y : ℕ) (f h : PlainFormula) → IsSurrogate g zs x y f → IsSurrogate g zs x y h → f ≡ h

-- there is at most one place where it stops
abbrev pub OneStopWith : Type 0
OneStopWith = (g : MixedGraph) (zs : List ℕ) (x y small big small' big' : ℕ) → IsStoppedWith g zs x y small big → IsStoppedWith g zs x y small' big'
    → (small ≡ small') × (big ≡ big')

-- the formula that is identified from observations alone is the one over experiments, whatever these are
abbrev pub PlainComesFirst : Type 0
PlainComesFirst = (g : MixedGraph) → IsMixedGraph g → (zs : List ℕ) (x y : ℕ) (f : PlainFormula) → IsIdentified g x y f → IsSurrogate g zs x y f
