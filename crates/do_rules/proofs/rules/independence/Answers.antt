use Rattle.std.proofs.lemmas.Result.{on_ok_weaker, IfErr-weaker}
use Rattle.mixed_graph.specs.Vocabulary.{has, graph_of}
use Rattle.m_separation.specs.Vocabulary.{IsOpenPath}
use Rattle.do_rules.specs.Rules.{AreDependent}
use Rattle.do_rules.proofs.Failing.{dependent, open_walk}
use Rattle.do_rules.proofs.Holds.{independent_holds}
use Rattle.do_rules.proofs.rules.independence.Goals as goal

pub returns-clause-holds : goal.returns-clause-holds
returns-clause-holds c = on_ok_weaker c.blocked.result
    (independent_holds (graph_of c.args.g.now) c.args.g.now.valid (has c.args.x.bits) (has c.args.y.bits)
    (has c.args.w.bits) c.requires) c.blocked.ensures.apart

pub returns-clause-dependent : goal.returns-clause-dependent
returns-clause-dependent c = IfErr-weaker c.blocked.result
    (λ p. IsOpenPath (graph_of c.args.g.now) (has c.args.x.bits) (has c.args.y.bits) (has c.args.w.bits) p.vertices p.marks p.count)
    (λ p. AreDependent (graph_of c.args.g.now) (has c.args.x.bits) (has c.args.y.bits) (has c.args.w.bits))
    (λ p o. dependent (graph_of c.args.g.now) c.args.g.now.valid (has c.args.x.bits) (has c.args.y.bits) (has c.args.w.bits)
    (open_walk (graph_of c.args.g.now) (has c.args.x.bits) (has c.args.y.bits) (has c.args.w.bits) p o))
    c.blocked.ensures.open
