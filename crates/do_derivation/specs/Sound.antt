-- What steps and derivations promise, in each positive model that fits the graph.
use Rattle.std.specs.Prelude.{ℕ, ◌≡◌, ◌<◌, true, List, length, get_or, Option, Some, None}
use Rattle.mixed_graph.specs.Vocabulary.{MixedGraph, IsMixedGraph}
use Rattle.fractions.specs.Vocabulary.{Fraction, IsEqual, IsPositive}
use Rattle.finite_models.specs.Vocabulary.{FiniteModel, Fits, IsAssignment, IsPositiveModel}
use Rattle.prob_expr.specs.Vocabulary.{is_term, are_terms, is_allowed, PlainFormula, PlainTarget, weights_of, value, EqualsEffect}
use Rattle.prob_expr.specs.Tree.{Tree}
use Rattle.do_derivation.specs.Accepts.{Accepts, AcceptsNot, start_of}
use Rattle.do_derivation.specs.Plans.{Plan, PlainDerivation}
use Rattle.do_derivation.specs.Steps.{Makes, Refuses}
use Rattle.do_derivation.specs.declared.faults.StepFault.{StepFault}
use Rattle.do_derivation.specs.declared.faults.StepFault.TheVariants.{NotATerm, Sets, Unblocked, BadOrder, Grouping, NoLemma, NoPlace, Shape}
use Rattle.do_derivation.specs.declared.faults.CheckFault.{CheckFault}

-- definition k has the values q k: those that may be cited have the values of their lemmas' terms, and all are positive
pub record HaveValues (g : MixedGraph) (m : FiniteModel) (lemmas : List ℕ) (q : ℕ → (ℕ → ℕ) → Fraction) : Type 0 where
  pub cited : (k : ℕ) (s : ℕ → ℕ) → k < length lemmas → IsAssignment m.vertices m.size s
      → IsEqual (q k s) (value (weights_of m) q (start_of g.vertices (get_or lemmas k 0)) s)
  pub positive : (k : ℕ) (s : ℕ → ℕ) → IsAssignment m.vertices m.size s → IsPositive (q k s)

-- a step keeps the value at each assignment
abbrev pub StepKeepsValue : Type 0
StepKeepsValue = (g : MixedGraph) → IsMixedGraph g → (lemmas : List ℕ) (p : Plan) (e e' : Tree) → are_terms g.vertices e ≡ true → Makes g lemmas p e e'
    → (m : FiniteModel) → Fits g m → IsPositiveModel m → (q : ℕ → (ℕ → ℕ) → Fraction) → HaveValues g m lemmas q
    → (s : ℕ → ℕ) → IsAssignment m.vertices m.size s → IsEqual (value (weights_of m) q e s) (value (weights_of m) q e' s)

-- what a step makes of an expression all of whose terms are terms is one
abbrev pub StepKeepsTerms : Type 0
StepKeepsTerms = (g : MixedGraph) → IsMixedGraph g → (lemmas : List ℕ) (p : Plan) (e e' : Tree) → are_terms g.vertices e ≡ true → Makes g lemmas p e e'
    → are_terms g.vertices e' ≡ true

-- the formula of an accepted derivation is the effect, and its terms are under the allowed interventions
abbrev pub AcceptedIsEffect : Type 0
AcceptedIsEffect = (g : MixedGraph) → IsMixedGraph g → (allowed : List ℕ) (t : PlainTarget) (f : PlainFormula) (d : PlainDerivation)
    → is_term g.vertices t.y t.x t.given ≡ true → Accepts g allowed t f d
    → (is_allowed allowed f ≡ true) × EqualsEffect g t f

-- the fault but for its path, of which there may be several
abbrev pub kind_of : StepFault → Option StepFault
kind_of (Unblocked p) = None
kind_of NotATerm = Some NotATerm
kind_of Sets = Some Sets
kind_of BadOrder = Some BadOrder
kind_of Grouping = Some Grouping
kind_of (NoLemma k) = Some (NoLemma k)
kind_of (NoPlace i) = Some (NoPlace i)
kind_of Shape = Some Shape

-- a step has at most one result, or else is refused at one node by one kind of fault; never both
pub record IsExact (g : MixedGraph) (lemmas : List ℕ) (p : Plan) (e : Tree) : Type 0 where
  pub one_result : (x y : Tree) → Makes g lemmas p e x → Makes g lemmas p e y → x ≡ y
  pub one_fault : (before k j : ℕ) (f h : StepFault) → Refuses g lemmas p e before k f → Refuses g lemmas p e before j h → (k ≡ j) × (kind_of f ≡ kind_of h)
  pub not_both : (x : Tree) (before k : ℕ) (f : StepFault) → Makes g lemmas p e x → Refuses g lemmas p e before k f → ⊥

-- each step is exact
abbrev pub StepsAreExact : Type 0
StepsAreExact = (g : MixedGraph) (lemmas : List ℕ) (p : Plan) (e : Tree) → IsExact g lemmas p e

-- an accepted derivation has no first fault
abbrev pub AcceptsOrNot : Type 0
AcceptsOrNot = (g : MixedGraph) (allowed : List ℕ) (t : PlainTarget) (f : PlainFormula) (d : PlainDerivation) (fault : CheckFault) → Accepts g allowed t f d
    → AcceptsNot g allowed t f d fault → ⊥
