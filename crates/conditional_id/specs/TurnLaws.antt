-- What is proved of effects under a condition.
use Rattle.std.specs.Prelude.{ℕ, ◌≡◌, true, List, [], None, IsTrue}
use Rattle.mixed_graph.specs.Vocabulary.{has, MixedGraph, IsMixedGraph, IsAncestor, union}
use Rattle.hedge.specs.Vocabulary.{AreSetsOfHedge}
use Rattle.prob_expr.specs.Vocabulary.{fault_in, is_do_free, PlainFormula, PlainTarget, EqualsEffect}
use Rattle.do_derivation.specs.Accepts.{Accepts}
use Rattle.do_derivation.specs.Vocabulary.{PlainDerivation}
use Rattle.identification_theory.specs.Vocabulary.{is_plan_within, are_lemmas_within, IsUnidentified, is_tree_within, are_defs_within, AreRoots, FormulaNamesOnly}
use Rattle.conditional_id.specs.Conditionals.{IsConditionalTarget, AreTurned, IsTurned, divided, divided_derivation, IsConditional}
use Rattle.conditional_id.specs.Conditionals.{IsConditionalBySteps, AreEqualEffects}

-- The formula is accepted by the check of formulas, has no intervention left, and names ancestors of y and of given alone; the derivation turns P(y |
-- do(x), given) into it; and it equals the effect in each positive model of the graph, at each assignment.
pub record IsRightGiven (g : MixedGraph) (t : PlainTarget) (f : PlainFormula) (d : PlainDerivation) : Type 0 where
  pub formed : fault_in g.vertices f ≡ None
  pub do_free : is_do_free f ≡ true
  pub names : FormulaNamesOnly (IsAncestor g (has (union t.y t.given))) f
  pub accepted : Accepts g [] t f d
  pub effect : EqualsEffect g t f

-- Steps nest at most 18 deep in main and 10 in a lemma, nodes at most 9 deep in main and 5 in a definition, for any number of vertices.
pub record IsShallowGiven (f : PlainFormula) (d : PlainDerivation) : Type 0 where
  pub main_steps : IsTrue (is_plan_within 18 d.main)
  pub lemma_steps : IsTrue (are_lemmas_within 10 d.lemmas)
  pub main : IsTrue (is_tree_within 9 f.main)
  pub defs : IsTrue (are_defs_within 5 f.defs)

-- a formula with its derivation is the one that is stated
abbrev pub DerivedIsConditional : Type 0
DerivedIsConditional = (g : MixedGraph) (t : PlainTarget) (f : PlainFormula) (d : PlainDerivation) → IsConditionalBySteps g t f d → IsConditional g t f

-- and it has one
abbrev pub ConditionalIsDerived : Type 0
ConditionalIsDerived = (g : MixedGraph) → IsMixedGraph g → (t : PlainTarget) → IsConditionalTarget g t → (f : PlainFormula) → IsConditional g t f
    → (d : PlainDerivation) × IsConditionalBySteps g t f d

-- the formula is right
abbrev pub ConditionalIsRight : Type 0
ConditionalIsRight = (g : MixedGraph) → IsMixedGraph g → (t : PlainTarget) → IsConditionalTarget g t → (f : PlainFormula) (d : PlainDerivation)
    → IsConditionalBySteps g t f d → IsRightGiven g t f d

-- and nests little
abbrev pub ConditionalIsShallow : Type 0
ConditionalIsShallow = (g : MixedGraph) → IsMixedGraph g → (t : PlainTarget) → IsConditionalTarget g t → (f : PlainFormula) (d : PlainDerivation)
    → IsConditionalBySteps g t f d → IsShallowGiven f d

-- from any accepted derivation of the joint formula, whoever wrote it, comes one for the target
abbrev pub DividedIsAccepted : Type 0
DividedIsAccepted = (g : MixedGraph) (t : PlainTarget) → IsConditionalTarget g t → (x' z' : ℕ) (vs : List ℕ) → AreTurned g t.y t.x t.given x' z' vs
    → (joint : PlainFormula) (d : PlainDerivation)
    → Accepts g [] (record { x = x'; y = union t.y z'; given = 0 }) joint d → Accepts g [] t (divided t.y z' joint) (divided_derivation vs t.y z' d)

-- P(y | do(x), given) is P(y | do(x'), z') for the turned sets
abbrev pub TurnedIsSame : Type 0
TurnedIsSame = (g : MixedGraph) → IsMixedGraph g → (t : PlainTarget) → IsConditionalTarget g t → (x' z' : ℕ) (vs : List ℕ) → IsTurned g t x' z' vs
    → AreEqualEffects g t (record { x = x'; y = t.y; given = z' })

-- their sets are those of a joint effect
abbrev pub TurnedIsTarget : Type 0
TurnedIsTarget = (g : MixedGraph) (t : PlainTarget) → IsConditionalTarget g t → (x' z' : ℕ) (vs : List ℕ) → IsTurned g t x' z' vs
    → IsConditionalTarget g (record { x = x'; y = union t.y z'; given = 0 })

-- where the identification of the joint effect stops, there is a hedge for it
abbrev pub JointHasHedge : Type 0
JointHasHedge = (g : MixedGraph) → IsMixedGraph g → (t : PlainTarget) → IsConditionalTarget g t → (x' z' : ℕ) (vs : List ℕ) → IsTurned g t x' z' vs
    → (small big roots : ℕ) → IsUnidentified g x' (union t.y z') small big → AreRoots g small roots → AreSetsOfHedge g x' (union t.y z') big small roots

-- and no formula
abbrev pub JointExcludesFormula : Type 0
JointExcludesFormula = (g : MixedGraph) → IsMixedGraph g → (t : PlainTarget) → IsConditionalTarget g t → (x' z' : ℕ) (vs : List ℕ) → IsTurned g t x' z' vs
    → (small big : ℕ) → IsUnidentified g x' (union t.y z') small big → (f : PlainFormula) → IsConditional g t f → ⊥

-- the turned sets are fixed, and the order of the moves
abbrev pub OneTurned : Type 0
OneTurned = (g : MixedGraph) (t : PlainTarget) (x' z' a b : ℕ) (vs ws : List ℕ) → IsTurned g t x' z' vs → IsTurned g t a b ws → (x' ≡ a) × (z' ≡ b) × (vs ≡ ws)

-- there is at most one formula
abbrev pub OneConditional : Type 0
OneConditional = (g : MixedGraph) (t : PlainTarget) (f h : PlainFormula) → IsConditional g t f → IsConditional g t h → f ≡ h

-- and at most one derivation
abbrev pub OneConditionalDerivation : Type 0
OneConditionalDerivation = (g : MixedGraph) (t : PlainTarget) (f h : PlainFormula) (d e : PlainDerivation) → IsConditionalBySteps g t f d
    → IsConditionalBySteps g t h e → d ≡ e
