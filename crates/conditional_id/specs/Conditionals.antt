-- Effects under a condition, P(y | do(x), given) (Shpitser and Pearl 2006): observations turn into interventions as long as rule 2 lets them; then
-- the joint effect of the rest is identified, and divided.
use Rattle.std.specs.Prelude.{ℕ, ◌≡◌, ◌≢◌, ◌<◌, ◌⊎◌, List, [], ◌∷◌, IsTrue, if◌then◌else◌}
use Rattle.mixed_graph.specs.Vocabulary.{has, MixedGraph, union, minus, one, is_empty}
use Rattle.finite_models.specs.Vocabulary.{FiniteModel, Fits, IsAssignment, IsPositiveModel}
use Rattle.fractions.specs.Vocabulary.{IsEqual}
use Rattle.do_rules.specs.declared.rules.Rule.{Rule}
use Rattle.do_rules.specs.Vocabulary.{AreThreeSets, IsBlockedFor}
use Rattle.prob_expr.specs.Tree.{prob, sum, quotient}
use Rattle.prob_expr.specs.Vocabulary.{PlainFormula, PlainTarget, effect}
use Rattle.do_derivation.specs.Plans.{Move, Plan, Plans, plan}
use Rattle.do_derivation.specs.Vocabulary.{no_plans, PlainDerivation}
use Rattle.do_derivation.specs.declared.moves.SetMove.TheVariants as set_move
use Rattle.do_derivation.specs.declared.moves.BareMove.TheVariants as bare_move
use Rattle.identification_theory.specs.Vocabulary.{single, IsDerived, IsIdentified}

-- the three sets of a target lie within the graph and are disjoint, and y isn't empty
pub record IsConditionalTarget (g : MixedGraph) (t : PlainTarget) : Type 0 where
  pub sets : AreThreeSets g.vertices (has t.x) (has t.y) (has t.given)
  pub some : (v : ℕ) × IsTrue (has t.y v)

-- ---- the turned sets

-- In P(y | do(x), z) the observation of v may become an intervention: rule 2 applies to v with the rest of z observed. So y and v are separated by x
-- and the rest of z, in the graph without the edges into x and the arrows out of v.
abbrev pub IsTurning : MixedGraph → (x y z v : ℕ) → Type 0
IsTurning g x y z v = IsBlockedFor Rule.Two g (has x) (has y) (has (one v)) (has (minus z (one v)))

-- While some member of z may become an intervention, the lowest such one moves from z to x. The sets that are left, x' and z', and the vertices in
-- the order in which they moved.
pub data AreTurned (g : MixedGraph) (y : ℕ) : (x z : ℕ) → (x' z' : ℕ) → List ℕ → Type 0 where
  still : {x z : ℕ} → ((v : ℕ) → IsTrue (has z v) → IsTurning g x y z v → ⊥) → AreTurned g y x z x z []
  move : {x z x' z' v : ℕ} {vs : List ℕ} → IsTrue (has z v) → IsTurning g x y z v → ((u : ℕ) → u < v → IsTrue (has z u) → IsTurning g x y z u → ⊥)
      → AreTurned g y (union x (one v)) (minus z (one v)) x' z' vs → AreTurned g y x z x' z' (v ∷ vs)

-- the turned sets of a target: x and given themselves where x is empty
abbrev pub IsTurned : MixedGraph → PlainTarget → (x' z' : ℕ) → List ℕ → Type 0
IsTurned g t x' z' vs = ((t.x ≡ 0) × (x' ≡ t.x) × (z' ≡ t.given) × (vs ≡ [])) ⊎ ((t.x ≢ 0) × AreTurned g t.y t.x t.given x' z' vs)

-- ---- the formula

-- the formula of the joint effect of y and z', divided by its sum over y where an observation is left
abbrev pub divided : (y z' : ℕ) → PlainFormula → PlainFormula
divided y z' f = if is_empty z' then f else (record { defs = f.defs; main = quotient f.main (sum y f.main) })

-- the formula from that of the joint effect of y and the observations that are left, by the turned interventions
pub record IsDivided (g : MixedGraph) (t : PlainTarget) (f : PlainFormula) : Type 0 where
  pub doing : ℕ
  pub left : ℕ
  pub moved : List ℕ
  pub turned : AreTurned g t.y t.x t.given doing left moved
  pub joint : PlainFormula
  pub identified : IsIdentified g doing (union t.y left) joint
  pub is : f ≡ divided t.y left joint

-- the formula for P(y | do(x), given): that of identification where nothing is given; P(y | given) where x is empty; else the divided one
abbrev pub IsConditional : MixedGraph → PlainTarget → PlainFormula → Type 0
IsConditional g t f = ((t.given ≡ 0) × IsIdentified g t.x t.y f)
    ⊎ ((t.given ≢ 0) × (t.x ≡ 0) × (f ≡ record { defs = []; main = prob t.y 0 t.given }))
    ⊎ ((t.given ≢ 0) × (t.x ≢ 0) × IsDivided g t f)

-- ---- its derivation

-- rule 2 for each of the vertices in turn, and then the rest
abbrev pub turned_steps : List ℕ → Plans → Plans
turned_steps [] rest = rest
turned_steps (v ∷ vs) rest = plan (Plan.Make (Move.WithSet set_move.Rule2Do (one v))) (turned_steps vs rest)

-- the steps of a list, or the step alone
abbrev pub steps_of : Plan → Plans
steps_of (Plan.Then ps) = ps
steps_of (Plan.At i p) = single (Plan.At i p)
steps_of (Plan.Make m) = single (Plan.Make m)

-- y is put in under a sum, and p is done in it
abbrev pub summed_steps : (y : ℕ) → Plan → Plans
summed_steps y p = plan (Plan.Make (Move.WithSet set_move.Widen y)) (single (Plan.At 0 p))

-- From P(y | do(x'), z') to the divided formula, where `p` makes that of the joint effect: the same steps where no observation is left. Else the term
-- is split into the joint effect of y and z' and that of z'; y is put in there, and p makes either part.
abbrev pub divided_steps : (y z' : ℕ) → Plan → Plans
divided_steps y z' p = if is_empty z' then steps_of p
    else (plan (Plan.Make (Move.Bare bare_move.Split)) (plan (Plan.At 0 p) (single (Plan.At 1 (Plan.Then (summed_steps y p))))))

-- the derivation from one of the joint formula, where these vertices moved
abbrev pub divided_derivation : List ℕ → (y z' : ℕ) → PlainDerivation → PlainDerivation
divided_derivation vs y z' d = record { lemmas = d.lemmas; main = Plan.Then (turned_steps vs (divided_steps y z' d.main)) }

-- the divided formula with its derivation
pub record IsDividedBySteps (g : MixedGraph) (t : PlainTarget) (f : PlainFormula) (d : PlainDerivation) : Type 0 where
  pub doing : ℕ
  pub left : ℕ
  pub moved : List ℕ
  pub turned : AreTurned g t.y t.x t.given doing left moved
  pub joint : PlainFormula
  pub steps : PlainDerivation
  pub derived : IsDerived g doing (union t.y left) joint steps
  pub formula : f ≡ divided t.y left joint
  pub derivation : d ≡ divided_derivation moved t.y left steps

-- the formula for P(y | do(x), given) and its derivation, which has no step where x is empty
abbrev pub IsConditionalBySteps : MixedGraph → PlainTarget → PlainFormula → PlainDerivation → Type 0
IsConditionalBySteps g t f d = ((t.given ≡ 0) × IsDerived g t.x t.y f d)
    ⊎ ((t.given ≢ 0) × (t.x ≡ 0) × (f ≡ record { defs = []; main = prob t.y 0 t.given }) × (d ≡ record { lemmas = []; main = Plan.Then no_plans }))
    ⊎ ((t.given ≢ 0) × (t.x ≢ 0) × IsDividedBySteps g t f d)

-- ---- equal effects

-- the effects of both targets are equal in each positive model that fits the graph, at each assignment
abbrev pub AreEqualEffects : MixedGraph → (t r : PlainTarget) → Type 0
AreEqualEffects g t r = (m : FiniteModel) → Fits g m → IsPositiveModel m → (s : ℕ → ℕ) → IsAssignment m.vertices m.size s
    → IsEqual (effect m t s) (effect m r s)
