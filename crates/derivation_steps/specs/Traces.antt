-- What the moves of a step make, one after another.
use Rattle.std.specs.Prelude.{ℕ, ◌≡◌, List, [], ◌∷◌, map}
use Rattle.mixed_graph.specs.Vocabulary.{MixedGraph}
use Rattle.prob_expr.specs.Tree.{Tree}
use Rattle.prob_expr.specs.View.{view}
use Rattle.do_derivation.specs.Plans.{Plan}
use Rattle.do_derivation.specs.Vocabulary.{Makes, step_view}
use Rattle.derivation_steps.specs.Asked.{IsAsked}
use Rattle.derivation_steps.specs.declared.tracing.Made.{Made}

-- the move is that step, which makes what stands behind it of the expression e, and asks for that rule
pub record IsMadeOf (g : MixedGraph) (lemmas : List ℕ) (p : Plan) (e : Tree) (m : Made) : Type 0 where
  pub step : step_view m.step ≡ p
  pub makes : Makes g lemmas p e (view m.after)
  pub asked : IsAsked g lemmas p e m.asked

-- the steps of the moves
abbrev pub plans_in : List Made → List Plan
plans_in ms = map (λ (m : Made). step_view m.step) ms

-- from the expression e the moves lead to x, one after another
abbrev pub Leads : MixedGraph → List ℕ → Tree → List Made → Tree → Type 0
Leads g lemmas e [] x = x ≡ e
Leads g lemmas e (m ∷ ms) x = IsMadeOf g lemmas (step_view m.step) e m × Leads g lemmas (view m.after) ms x

-- the steps make x of e, one after another. Words for code inside this crate.
abbrev pub MadeInTurn : MixedGraph → List ℕ → List Plan → Tree → Tree → Type 0
MadeInTurn g lemmas [] e x = x ≡ e
MadeInTurn g lemmas (p ∷ ps) e x = (m : Tree) × Makes g lemmas p e m × MadeInTurn g lemmas ps m x
