use Rattle.std.proofs.Common.{◌≤◌, subst, inr, length, arith}
use Rattle.mixed_graph.specs.Vocabulary.{graph_of}
use Rattle.prob_expr.specs.Vocabulary.{formula_view, target_view}
use Rattle.do_derivation.specs.Vocabulary.{derivation_view}
use Rattle.identification_theory.specs.Vocabulary.{IsDerived}
use Rattle.identify.specs.Vocabulary.{IfFormula}
use Rattle.conditional_id.proofs.TurningLaw.{targeted, turned_target}
use Rattle.conditional_id.specs.Conditionals.{IsConditionalTarget}
use Rattle.conditional_id.proofs.Found.{exact_for, given_formula, joint_sets, some_positive, target_with}
use Rattle.conditional_id.proofs.identifying.with_condition.Goals as goal
use Rattle.conditional_id.proofs.identifying.with_condition.Goals.{After-union-joint}

-- the joint effect's sets
sets : (c : After-union-joint) → IsConditionalTarget (graph_of c.args.g.now) (targeted c.in_ok-turned.turned.doing.bits c.union-joint.result.bits 0)
sets c = joint_sets (graph_of c.args.g.now) c.args.t.x.bits c.args.t.y.bits c.args.t.given.bits
    (target_with (graph_of c.args.g.now) c.args.t.x.bits c.args.t.y.bits c.args.t.given.bits c.requires.sets c.requires.some
    (omega arith)) c.in_ok-turned.turned c.in_ok-turned.ensures c.union-joint.result.bits c.union-joint.ensures.mask

-- and those of the target into which the observations turn
left_sets : (c : After-union-joint) → IsConditionalTarget (graph_of c.args.g.now)
    (targeted c.in_ok-turned.turned.doing.bits c.args.t.y.bits c.in_ok-turned.turned.left.bits)
left_sets c = let m = c.in_ok-turned.ensures in
    turned_target (graph_of c.args.g.now) c.args.t.y.bits c.args.t.x.bits c.args.t.given.bits c.in_ok-turned.turned.doing.bits c.in_ok-turned.turned.left.bits
    m.moved m.turned
    (target_with (graph_of c.args.g.now) c.args.t.x.bits c.args.t.y.bits c.args.t.given.bits c.requires.sets c.requires.some (omega arith))

pub is_settled-requires-clause-doing_within : goal.is_settled-requires-clause-doing_within
is_settled-requires-clause-doing_within c = (left_sets (goal.at.is_settled-requires-clause-doing_within c).After-union-joint).sets.x_within

pub is_settled-requires-clause-left_within : goal.is_settled-requires-clause-left_within
is_settled-requires-clause-left_within c = (left_sets (goal.at.is_settled-requires-clause-left_within c).After-union-joint).sets.w_within

pub is_settled-requires-clause-apart : goal.is_settled-requires-clause-apart
is_settled-requires-clause-apart c = (left_sets (goal.at.is_settled-requires-clause-apart c).After-union-joint).sets.x_w

pub identify-requires-clause-x_within : goal.identify-requires-clause-x_within
identify-requires-clause-x_within c = (sets (goal.at.identify-requires-clause-x_within c).After-union-joint).sets.x_within

pub identify-requires-clause-y_within : goal.identify-requires-clause-y_within
identify-requires-clause-y_within c = (sets (goal.at.identify-requires-clause-y_within c).After-union-joint).sets.y_within

pub identify-requires-clause-apart : goal.identify-requires-clause-apart
identify-requires-clause-apart c = (sets (goal.at.identify-requires-clause-apart c).After-union-joint).sets.x_y

pub identify-requires-clause-some : goal.identify-requires-clause-some
identify-requires-clause-some c = some_positive (graph_of c.args.g.now) (targeted c.in_ok-turned.turned.doing.bits c.union-joint.result.bits 0)
    (sets (goal.at.identify-requires-clause-some c).After-union-joint)

pub returns-in_ok-formula-in-Formula-clause-answer : goal.returns-in_ok-formula-in-Formula-clause-answer
returns-in_ok-formula-in-Formula-clause-answer c =
    let g = graph_of c.args.g.now in
    let r = c.in_ok-turned.turned in
    let m = c.in_ok-turned.ensures in
    let w = c.union-joint.result.bits in
    given_formula g (target_view c.args.t) c.requires.given c.requires.doing r.doing.bits r.left.bits m.moved m.turned w c.union-joint.ensures.mask
    (formula_view c.in-Formula.undivided) (derivation_view c.in-Formula.derivation)
    (subst (λ a. IfFormula a (IsDerived g r.doing.bits w)) c.in-Formula.is c.in_ok-undivided.ensures.derived)
    (subst (λ a. IfFormula a (λ f d. length f.defs ≤ 4096)) c.in-Formula.is c.in_ok-undivided.ensures.few)
    _ _ c.in_ok-formula-in-Formula.ensures.formula (c.in_ok-formula-in-Formula.ensures.derivation m.moved m.steps)

pub returns-in_ok-formula-in-Formula-clause-exact : goal.returns-in_ok-formula-in-Formula-clause-exact
returns-in_ok-formula-in-Formula-clause-exact c =
    let r = c.in_ok-turned.turned in
    let m = c.in_ok-turned.ensures in
    exact_for (graph_of c.args.g.now) (target_view c.args.t) r.doing.bits r.left.bits m.moved
    (inr (c.requires.doing, m.turned)) c.union-joint.result.bits c.union-joint.ensures.mask _ _ c.in-Formula.is c.in_ok-undivided.ensures.exact

pub returns-in_ok-settled-in-Hedge-clause-exact : goal.returns-in_ok-settled-in-Hedge-clause-exact
returns-in_ok-settled-in-Hedge-clause-exact c =
    let r = c.in_ok-turned.turned in
    let m = c.in_ok-turned.ensures in
    exact_for (graph_of c.args.g.now) (target_view c.args.t) r.doing.bits r.left.bits m.moved
    (inr (c.requires.doing, m.turned)) c.union-joint.result.bits c.union-joint.ensures.mask _ _ c.in-Hedge.is c.in_ok-undivided.ensures.exact
