-- What is proved of the procedure's answers.
use Rattle.std.specs.Prelude.{ℕ, ◌≡◌, None, IsTrue}
use Rattle.mixed_graph.specs.Vocabulary.{has, MixedGraph, IsMixedGraph, IsAncestor}
use Rattle.hedge.specs.Vocabulary.{IsSetOf, AreSetsOfHedge}
use Rattle.prob_expr.specs.Vocabulary.{fault_in, PlainFormula}
use Rattle.do_derivation.specs.Vocabulary.{PlainDerivation}
use Rattle.identification_theory.specs.Derivations.{IsDerived}
use Rattle.identification_theory.specs.Laws.{IsAcceptedFor}
use Rattle.identification_theory.specs.Procedure.{IsTarget, IsIdentified, IsUnidentified}
use Rattle.identification_theory.specs.AnswerDepth.{is_tree_within, are_defs_within}
use Rattle.identification_theory.specs.Names.{FormulaNamesOnly}

-- the formula names ancestors of y alone
abbrev pub FormulaNamesAncestors : Type 0
FormulaNamesAncestors = (g : MixedGraph) → IsMixedGraph g → (x y : ℕ) → IsTarget g x y → (f : PlainFormula) → IsIdentified g x y f
    → FormulaNamesOnly (IsAncestor g (has y)) f

-- the formula has no fault: its terms are terms of vertices of the graph, its sums and products aren't empty, and each definition names earlier ones
abbrev pub FormulaIsFormed : Type 0
FormulaIsFormed = (g : MixedGraph) → IsMixedGraph g → (x y : ℕ) → IsTarget g x y → (f : PlainFormula) → IsIdentified g x y f → fault_in g.vertices f ≡ None

-- main is at most 7 nodes deep, a definition at most 5, for any number of vertices
abbrev pub FormulaIsShallow : Type 0
FormulaIsShallow = (g : MixedGraph) (x y : ℕ) (f : PlainFormula) → IsIdentified g x y f → IsTrue (are_defs_within 5 f.defs) × IsTrue (is_tree_within 7 f.main)

-- there is at most one formula
abbrev pub OneFormula : Type 0
OneFormula = (g : MixedGraph) (x y : ℕ) (f h : PlainFormula) → IsIdentified g x y f → IsIdentified g x y h → f ≡ h

-- a formula with a derivation of the procedure is the one that it answers
abbrev pub DerivedIsIdentified : Type 0
DerivedIsIdentified = (g : MixedGraph) (x y : ℕ) (f : PlainFormula) (d : PlainDerivation) → IsDerived g x y f d → IsIdentified g x y f

-- there is at most one derivation
abbrev pub OneDerivation : Type 0
OneDerivation = (g : MixedGraph) (x y : ℕ) (f h : PlainFormula) (d e : PlainDerivation) → IsDerived g x y f d → IsDerived g x y h e → d ≡ e

-- and it is accepted
abbrev pub DerivationIsAccepted : Type 0
DerivationIsAccepted = (g : MixedGraph) → IsMixedGraph g → (x y : ℕ) → IsTarget g x y → (f : PlainFormula) (d : PlainDerivation) → IsDerived g x y f d
    → IsAcceptedFor g x y f d

-- there is at most one place where the procedure stops
abbrev pub OneStop : Type 0
OneStop = (g : MixedGraph) (x y small big small' big' : ℕ) → IsUnidentified g x y small big → IsUnidentified g x y small' big' → (small ≡ small') × (big ≡ big')

-- where there is a formula, it stops nowhere
abbrev pub NeverBoth : Type 0
NeverBoth = (g : MixedGraph) → IsMixedGraph g → (x y small big : ℕ) → IsTarget g x y → (f : PlainFormula) → IsIdentified g x y f
    → IsUnidentified g x y small big → ⊥

-- the roots are the members of c without a child in c
abbrev pub AreRoots : MixedGraph → (c roots : ℕ) → Type 0
AreRoots g c roots = IsSetOf roots (λ v. IsTrue (has c v) × ((u : ℕ) → IsTrue (g.arrow v u) → IsTrue (has c u) → ⊥))

-- where the procedure stops there is a hedge (Shpitser and Pearl)
abbrev pub StopIsHedge : Type 0
StopIsHedge = (g : MixedGraph) → IsMixedGraph g → (x y small big roots : ℕ) → IsTarget g x y → IsUnidentified g x y small big → AreRoots g small roots
    → AreSetsOfHedge g x y big small roots
