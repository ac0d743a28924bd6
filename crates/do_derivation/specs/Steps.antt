-- What a step makes of an expression, and where it is refused.
use Rattle.std.specs.Prelude.{ℕ, ◌+◌, ◌≡◌, ◌⊎◌, List, MatchOption}
use Rattle.mixed_graph.specs.Vocabulary.{has, MixedGraph}
use Rattle.m_separation.specs.declared.paths.OpenPath.{OpenPath}
use Rattle.do_rules.specs.Vocabulary.{IsBlockedFor, IsOpenFor}
use Rattle.prob_expr.specs.Vocabulary.{cap}
use Rattle.prob_expr.specs.Tree.{Tree}
use Rattle.do_derivation.specs.Plans.{Plan, Plans, no_plans, plan, numbered}
use Rattle.do_derivation.specs.Shapes.{child, with_child}
use Rattle.do_derivation.specs.Table.{Row, row}
use Rattle.do_derivation.specs.declared.faults.StepFault.{StepFault}
use Rattle.do_derivation.specs.declared.faults.StepFault.TheVariants.{Unblocked, NoPlace}

-- a row of the table has this result
abbrev pub IsMade : MixedGraph → Row → Tree → Type 0
IsMade g (Row.Refuse f) e = ⊥
IsMade g (Row.Make x) e = e ≡ x
IsMade g (Row.Ask rule x y z w made) e = IsBlockedFor rule g (has x) (has y) (has z) (has w) × (e ≡ made)

-- a row of the table has this fault
abbrev pub RowRefuses : MixedGraph → Row → StepFault → Type 0
RowRefuses g (Row.Refuse f) fault = fault ≡ f
RowRefuses g (Row.Make x) fault = ⊥
RowRefuses g (Row.Ask rule x y z w made) fault = (p : OpenPath) × IsOpenFor rule g (has x) (has y) (has z) (has w) p × (fault ≡ Unblocked p)

-- the step makes e' of e, where the lemmas with these sets may be cited
abbrev mutual
  pub Makes : MixedGraph → List ℕ → Plan → Tree → Tree → Type 0
  Makes g lemmas (Plan.Make move) e e' = IsMade g (row g.vertices lemmas move e) e'
  Makes g lemmas (Plan.At i p) e e' = MatchOption (child e i) ⊥ (λ c. (c' : Tree) × Makes g lemmas p c c' × (e' ≡ with_child e i c'))
  Makes g lemmas (Plan.Then ps) e e' = MakesAll g lemmas ps e e'

  pub MakesAll : MixedGraph → List ℕ → Plans → Tree → Tree → Type 0
  MakesAll g lemmas no_plans e e' = e' ≡ e
  MakesAll g lemmas (plan p ps) e e' = (m : Tree) × Makes g lemmas p e m × MakesAll g lemmas ps m e'

-- The step is refused on e at the node `number` by that fault, where `before` nodes were counted before it. Nodes count from 1 in preorder, `Then`
-- isn't counted, and a number that would pass the last of 32 bits is given as that.
abbrev mutual
  pub Refuses : MixedGraph → List ℕ → Plan → Tree → (before number : ℕ) → StepFault → Type 0
  Refuses g lemmas (Plan.Make move) e before number fault = (number ≡ cap (before + 1)) × RowRefuses g (row g.vertices lemmas move e) fault
  Refuses g lemmas (Plan.At i p) e before number fault = MatchOption (child e i) ((number ≡ cap (before + 1)) × (fault ≡ NoPlace i))
      (λ c. Refuses g lemmas p c (before + 1) number fault)
  Refuses g lemmas (Plan.Then ps) e before number fault = RefusesAny g lemmas ps e before number fault

  pub RefusesAny : MixedGraph → List ℕ → Plans → Tree → (before number : ℕ) → StepFault → Type 0
  RefusesAny g lemmas no_plans e before number fault = ⊥
  RefusesAny g lemmas (plan p ps) e before number fault =
      Refuses g lemmas p e before number fault ⊎ ((m : Tree) × Makes g lemmas p e m × RefusesAny g lemmas ps m (before + numbered p) number fault)
