use Rattle.std.proofs.Common.{◌||◌, refl}
use Rattle.std.proofs.lemmas.Result.{on_ok_weaker, IfErr-weaker}
use Rattle.mixed_graph.specs.Vocabulary.{has, graph_of}
use Rattle.m_separation.specs.declared.paths.OpenPath.{OpenPath}
use Rattle.m_separation.specs.Vocabulary.{IsOpenPath, IsSeparated}
use Rattle.do_rules.specs.Rules.{IsBlockedFor, IsOpenFor, DifferSomewhere, left_of, right_of}
use Rattle.do_rules.proofs.Failing.{open_rules_fail}
use Rattle.do_rules.proofs.Holds.{rule_holds}
use Rattle.do_rules.proofs.Moving.{separated_moved, open_moved}
use Rattle.do_rules.proofs.rules.Rule.applies.Goals as goal
use Rattle.do_rules.proofs.rules.Rule.applies.Goals.{After-blocked}

blocks : (c : After-blocked) → IsSeparated (graph_of c.graph.result) (has c.args.y.bits) (has c.args.z.bits) (has c.union.result.bits)
    → IsBlockedFor c.args.self (graph_of c.args.g.now) (has c.args.x.bits) (has c.args.y.bits) (has c.args.z.bits) (has c.args.w.bits)
blocks c sep = record {
  graph = graph_of c.graph.result;
  is_graph = c.graph.ensures.cut;
  separated = separated_moved (graph_of c.graph.result) (graph_of c.graph.result) (has c.args.y.bits) (has c.args.z.bits) (has c.union.result.bits)
      (λ v. has c.args.x.bits v || has c.args.w.bits v) refl c.union.ensures.members sep;
}

pub returns-clause-apart : goal.returns-clause-apart
returns-clause-apart c = on_ok_weaker c.blocked.result (blocks (goal.at.returns-clause-apart c).After-blocked) c.blocked.ensures.apart

pub returns-clause-holds : goal.returns-clause-holds
returns-clause-holds c = on_ok_weaker c.blocked.result
    (λ sep. rule_holds (graph_of c.args.g.now) c.args.g.now.valid (has c.args.x.bits) (has c.args.y.bits) (has c.args.z.bits)
    (has c.args.w.bits) c.requires.sets c.args.self (blocks (goal.at.returns-clause-holds c).After-blocked sep))
    c.blocked.ensures.apart

opens : (c : After-blocked) (p : OpenPath)
    → IsOpenPath (graph_of c.graph.result) (has c.args.y.bits) (has c.args.z.bits) (has c.union.result.bits) p.vertices p.marks p.count
    → IsOpenFor c.args.self (graph_of c.args.g.now) (has c.args.x.bits) (has c.args.y.bits) (has c.args.z.bits) (has c.args.w.bits) p
opens c p o = record {
  graph = graph_of c.graph.result;
  is_graph = c.graph.ensures.cut;
  path = open_moved (graph_of c.graph.result) (graph_of c.graph.result) (has c.args.y.bits) (has c.args.z.bits) (has c.union.result.bits)
      (λ v. has c.args.x.bits v || has c.args.w.bits v) p.vertices p.marks p.count refl c.union.ensures.members o;
}

pub returns-clause-open : goal.returns-clause-open
returns-clause-open c = IfErr-weaker c.blocked.result
    (λ p. IsOpenPath (graph_of c.graph.result) (has c.args.y.bits) (has c.args.z.bits) (has c.union.result.bits) p.vertices p.marks p.count)
    (IsOpenFor c.args.self (graph_of c.args.g.now) (has c.args.x.bits) (has c.args.y.bits) (has c.args.z.bits) (has c.args.w.bits))
    (opens (goal.at.returns-clause-open c).After-blocked)
    c.blocked.ensures.open

pub returns-clause-fails : goal.returns-clause-fails
returns-clause-fails c =
    let g = graph_of c.args.g.now in
    let x = has c.args.x.bits in
    let y = has c.args.y.bits in
    let z = has c.args.z.bits in
    let w = has c.args.w.bits in
    IfErr-weaker c.blocked.result
    (λ p. IsOpenPath (graph_of c.graph.result) y z (has c.union.result.bits) p.vertices p.marks p.count)
    (λ p. DifferSomewhere g (left_of c.args.self x y z w) (right_of c.args.self x y z w))
    (λ p o. open_rules_fail c.args.self g c.args.g.now.valid x y z w c.requires.sets p (opens (goal.at.returns-clause-fails c).After-blocked p o))
    c.blocked.ensures.open
