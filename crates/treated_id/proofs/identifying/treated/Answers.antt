use Rattle.std.proofs.Common.{arith}
use Rattle.mixed_graph.specs.Vocabulary.{graph_of}
use Rattle.prob_expr.specs.Vocabulary.{formula_view}
use Rattle.treated_id.specs.Right.{IsTreatedTarget}
use Rattle.treated_id.proofs.Answered.{x_in, child_in, not_confounded}
use Rattle.treated_id.proofs.DoFree.{formula_free}
use Rattle.treated_id.proofs.NoFault.{formula_formed}
use Rattle.treated_id.proofs.Once.{formula_once}
use Rattle.treated_id.proofs.Right.{formula_is_right}
use Rattle.mixed_graph.proofs.Masks.{some_member}
use Rattle.treated_id.proofs.identifying.treated.Goals as goal
use Rattle.treated_id.proofs.identifying.treated.Goals.{After-ancestors_of-s}

pub confounded_pair-requires-clause-inside : goal.confounded_pair-requires-clause-inside
confounded_pair-requires-clause-inside c = x_in (graph_of c.args.g.now) c.args.g.now.valid c.args.x.bits c.args.y.bits c.args.z.bits
    c.ancestors_of-s.result.bits c.ancestors_of-s.ensures c.requires.x_within

pub joined_path-requires-clause-from_in : goal.joined_path-requires-clause-from_in
joined_path-requires-clause-from_in c = child_in (graph_of c.args.g.now) c.args.g.now.valid c.args.x.bits c.args.y.bits c.args.z.bits
    c.ancestors_of-s.result.bits c.ancestors_of-s.ensures c.requires.x_within c.in-Some.field-0 c.in-Some.ensures

pub joined_path-requires-clause-to_in : goal.joined_path-requires-clause-to_in
joined_path-requires-clause-to_in c = x_in (graph_of c.args.g.now) c.args.g.now.valid c.args.x.bits c.args.y.bits c.args.z.bits
    c.ancestors_of-s.result.bits c.ancestors_of-s.ensures c.requires.x_within c.in-Some.field-0.treatment c.in-Some.ensures.treated

pub returns-in_ok-path-in-Some-clause-right : goal.returns-in_ok-path-in-Some-clause-right
returns-in_ok-path-in-Some-clause-right c = record {
  ancestors = c.ancestors_of-s.result.bits;
  are = c.ancestors_of-s.ensures;
  treated = c.in-Some.ensures.treated;
  arrow = c.in-Some.ensures.arrow;
  inside = child_in (graph_of c.args.g.now) c.args.g.now.valid c.args.x.bits c.args.y.bits c.args.z.bits
      c.ancestors_of-s.result.bits c.ancestors_of-s.ensures c.requires.x_within c.in-Some.field-0 c.in-Some.ensures;
  path = c.in_ok-path-in-Some.ensures;
}

target : (c : After-ancestors_of-s) → IsTreatedTarget (graph_of c.args.g.now) c.args.x.bits c.args.y.bits c.args.z.bits
target c = record {
  x_low = c.requires.x_within;
  y_low = c.requires.y_within;
  z_low = c.requires.z_within;
  x_off_y = c.requires.x_off_y;
  z_off_y = c.requires.z_off_y;
  x_off_z = c.requires.x_off_z;
  before = c.requires.before;
}

pub returns-in_ok-formula_of-in-None-clause-right : goal.returns-in_ok-formula_of-in-None-clause-right
returns-in_ok-formula_of-in-None-clause-right c =
    formula_is_right (graph_of c.args.g.now) c.args.g.now.valid c.args.x.bits c.args.y.bits c.args.z.bits
    (target (goal.at.returns-in_ok-formula_of-in-None-clause-right c).After-ancestors_of-s)
    (not_confounded (graph_of c.args.g.now) c.args.g.now.valid c.args.x.bits c.args.y.bits c.args.z.bits c.ancestors_of-s.result.bits
    c.ancestors_of-s.ensures c.requires.x_within c.in-None.ensures)
    (formula_view c.in_ok-formula_of-in-None.field-0) c.in_ok-formula_of-in-None.ensures

pub returns-in_ok-formula_of-in-None-clause-exact : goal.returns-in_ok-formula_of-in-None-clause-exact
returns-in_ok-formula_of-in-None-clause-exact c = (
  λ e. absurd (grind (arith, e)),
  λ k. absurd (not_confounded (graph_of c.args.g.now) c.args.g.now.valid c.args.x.bits c.args.y.bits c.args.z.bits c.ancestors_of-s.result.bits
      c.ancestors_of-s.ensures c.requires.x_within c.in-None.ensures k),
)

pub returns-in_ok-formula_of-in-None-clause-do_free : goal.returns-in_ok-formula_of-in-None-clause-do_free
returns-in_ok-formula_of-in-None-clause-do_free c = formula_free (graph_of c.args.g.now) c.args.x.bits c.args.y.bits c.args.z.bits
    (formula_view c.in_ok-formula_of-in-None.field-0) c.in_ok-formula_of-in-None.ensures

pub returns-in_ok-formula_of-in-None-clause-formed : goal.returns-in_ok-formula_of-in-None-clause-formed
returns-in_ok-formula_of-in-None-clause-formed c =
    let member = some_member c.args.y.bits (λ e. absurd (let s = c.requires.some in omega (arith, s, e))) (omega arith) in
    formula_formed (graph_of c.args.g.now) c.args.g.now.valid c.args.x.bits c.args.y.bits c.args.z.bits
    (target (goal.at.returns-in_ok-formula_of-in-None-clause-formed c).After-ancestors_of-s) member.0 member.1
    (formula_view c.in_ok-formula_of-in-None.field-0) c.in_ok-formula_of-in-None.ensures

pub returns-in_ok-formula_of-in-None-clause-named_once : goal.returns-in_ok-formula_of-in-None-clause-named_once
returns-in_ok-formula_of-in-None-clause-named_once c = formula_once (graph_of c.args.g.now) c.args.g.now.valid c.args.x.bits c.requires.x_within
    c.args.y.bits c.args.z.bits (target (goal.at.returns-in_ok-formula_of-in-None-clause-named_once c).After-ancestors_of-s)
    (formula_view c.in_ok-formula_of-in-None.field-0) c.in_ok-formula_of-in-None.ensures
