use Rattle.std.proofs.Common.{false, refl, sym, ◌∙◌, eqb-true, arith}
use Rattle.mixed_graph.specs.Vocabulary.{graph_of}
use Rattle.prob_expr.specs.Vocabulary.{target_view}
use Rattle.identification_theory.proofs.Bools.{clash}
use Rattle.conditional_id.specs.Conditionals.{IsConditionalTarget}
use Rattle.conditional_id.proofs.Found.{target_with}
use Rattle.conditional_id.proofs.RightAnswers.{no_joint_hedge}
use Rattle.conditional_id.proofs.identifying.answer.Goals as goal
use Rattle.conditional_id.proofs.identifying.answer.Goals.{After-is_empty}

target : (c : After-is_empty) → IsConditionalTarget (graph_of c.args.g.now) (target_view c.args.t)
target c = target_with (graph_of c.args.g.now) c.args.t.x.bits c.args.t.y.bits c.args.t.given.bits c.requires.sets c.requires.some (omega arith)

pub returns-then-is_empty-2-clause-exact : goal.returns-then-is_empty-2-clause-exact
returns-then-is_empty-2-clause-exact c = (
  λ e. absurd (clash false e refl),
  λ s. absurd (no_joint_hedge (graph_of c.args.g.now) (target_view c.args.t)
      (eqb-true c.args.t.x.bits 0 (sym c.is_empty-2.ensures.mask ∙ c.if-is_empty-2.true)) s),
)

pub returns-then-is_empty-clause-target : goal.returns-then-is_empty-clause-target
returns-then-is_empty-clause-target c = target (goal.at.returns-then-is_empty-clause-target c).After-is_empty

pub returns-then-is_empty-2-clause-target : goal.returns-then-is_empty-2-clause-target
returns-then-is_empty-2-clause-target c = target (goal.at.returns-then-is_empty-2-clause-target c).After-is_empty

pub returns-clause-target : goal.returns-clause-target
returns-clause-target c = target (goal.at.returns-clause-target c).After-is_empty
