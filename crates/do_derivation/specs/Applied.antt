-- What the parts of `apply` answer.
use Rattle.std.specs.Prelude.{ℕ, ◌+◌, ◌≡◌, List, Result, Ok, Err, MatchOption}
use Rattle.std.specs.Global.{Box}
use Rattle.mixed_graph.specs.Vocabulary.{MixedGraph}
use Rattle.prob_expr.specs.declared.expr.Expr.{Expr}
use Rattle.prob_expr.specs.Vocabulary.{cap, Trees}
use Rattle.prob_expr.specs.Tree.{Tree, product}
use Rattle.prob_expr.specs.View.{view}
use Rattle.do_derivation.specs.Plans.{Plan, Plans, numbered, numbered_all}
use Rattle.do_derivation.specs.Shapes.{factor_at}
use Rattle.do_derivation.specs.Steps.{IsMade, RowRefuses, Makes, MakesAll, Refuses, RefusesAny}
use Rattle.do_derivation.specs.Table.{Row}
use Rattle.do_derivation.specs.declared.faults.Refusal.{Refusal}
use Rattle.do_derivation.specs.declared.faults.Refusal.TheVariants.{Fault, NoMemory}
use Rattle.do_derivation.specs.declared.faults.StepFault.TheVariants.{NoPlace}

-- the result of a move, by its row
abbrev pub IsRow : MixedGraph → Row → Result Expr Refusal → Type 0
IsRow g r (Ok x) = IsMade g r (view x)
IsRow g r (Err (Fault f)) = RowRefuses g r f
IsRow g r (Err NoMemory) = Unit {0}

-- the result of a step on e: the counter of nodes stands at `from` before it, and at `to` after it
abbrev pub IsApplied : MixedGraph → List ℕ → Plan → Tree → (from to : ℕ) → Result Expr Refusal → Type 0
IsApplied g lemmas p e from to (Ok x) = Makes g lemmas p e (view x) × (cap to ≡ cap (from + numbered p))
IsApplied g lemmas p e from to (Err (Fault f)) = Refuses g lemmas p e from to f
IsApplied g lemmas p e from to (Err NoMemory) = Unit {0}

-- that of a step on what stands in a box
abbrev pub IsAppliedBoxed : MixedGraph → List ℕ → Plan → Tree → (from to : ℕ) → Result (Box Expr) Refusal → Type 0
IsAppliedBoxed g lemmas p e from to (Ok x) = Makes g lemmas p e (view x.value) × (cap to ≡ cap (from + numbered p))
IsAppliedBoxed g lemmas p e from to (Err (Fault f)) = Refuses g lemmas p e from to f
IsAppliedBoxed g lemmas p e from to (Err NoMemory) = Unit {0}

-- that of steps in turn
abbrev pub AreApplied : MixedGraph → List ℕ → Plans → Tree → (from to : ℕ) → Result Expr Refusal → Type 0
AreApplied g lemmas ps e from to (Ok x) = MakesAll g lemmas ps e (view x) × (cap to ≡ cap (from + numbered_all ps))
AreApplied g lemmas ps e from to (Err (Fault f)) = RefusesAny g lemmas ps e from to f
AreApplied g lemmas ps e from to (Err NoMemory) = Unit {0}

-- that of a step on factor i of a product
abbrev pub IsAppliedAt : MixedGraph → List ℕ → ℕ → Plan → Trees → (from to : ℕ) → Result Expr Refusal → Type 0
IsAppliedAt g lemmas i p ts from to (Ok x) = Makes g lemmas (Plan.At i p) (product ts) (view x) × (cap to ≡ cap (from + numbered p))
IsAppliedAt g lemmas i p ts from to (Err (Fault f)) = MatchOption (factor_at ts i) ((to ≡ from) × (f ≡ NoPlace i)) (λ c. Refuses g lemmas p c from to f)
IsAppliedAt g lemmas i p ts from to (Err NoMemory) = Unit {0}
