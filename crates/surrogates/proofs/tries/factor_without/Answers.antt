use Rattle.std.proofs.Common.{◌≡◌, ap, ◌∙◌}
use Rattle.mixed_graph.specs.Vocabulary.{has, induced, graph_of, minus}
use Rattle.do_derivation.specs.Vocabulary.{listed}
use Rattle.surrogates.specs.Surrogates.{without}
use Rattle.surrogates.proofs.Trying.{joined_in, low_in, tried_ok, tried_err}
use Rattle.surrogates.proofs.tries.factor_without.Goals as goal
use Rattle.surrogates.proofs.tries.factor_without.Goals.{After-induced-rest}

-- the graph at hand is the one without z
same : (c : After-induced-rest) → graph_of c.induced-rest.result ≡ without (graph_of c.args.g.now) c.args.z.bits
same c = c.induced-rest.ensures ∙ ap (λ m. induced (graph_of c.args.g.now) (has m))
    (c.difference.ensures.mask ∙ ap (λ a. minus a c.args.z.bits) c.below.ensures.mask)

pub factor_under-requires-clause-within : goal.factor_under-requires-clause-within
factor_under-requires-clause-within c = low_in (graph_of c.args.g.now)
    c.args.g.now.valid c.args.z.bits c.args.c.bits c.requires.apart c.requires.district.within (graph_of c.induced-rest.result)
    (same (goal.at.factor_under-requires-clause-within c).After-induced-rest)

pub factor_under-requires-clause-joined : goal.factor_under-requires-clause-joined
factor_under-requires-clause-joined c = joined_in (graph_of c.args.g.now)
    c.args.g.now.valid c.args.z.bits c.args.c.bits c.requires.apart c.requires.district.within (graph_of c.induced-rest.result)
    (same (goal.at.factor_under-requires-clause-joined c).After-induced-rest) c.requires.district.joined

pub returns-clause-tried : goal.returns-clause-tried
returns-clause-tried c = tried_ok (graph_of c.args.g.now) c.args.g.now.valid c.args.z.bits c.args.c.bits c.requires.apart c.requires.district.within
    (graph_of c.induced-rest.result)
    (same (goal.at.returns-clause-tried c).After-induced-rest) (listed c.order_of-order.result)
    c.order_of-order.ensures.listed c.args.first c.factor_under.result
    c.factor_under.ensures.factor c.factor_under.ensures.few c.factor_under.ensures.paired

pub returns-clause-fault : goal.returns-clause-fault
returns-clause-fault c = tried_err (graph_of c.args.g.now) c.args.g.now.valid c.args.z.bits c.args.c.bits c.requires.apart c.requires.district.within
    (graph_of c.induced-rest.result)
    (same (goal.at.returns-clause-fault c).After-induced-rest) c.factor_under.result c.factor_under.ensures.fault
