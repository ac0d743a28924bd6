use Rattle.std.proofs.Common.{◌<◌, sym, subst}
use Rattle.mixed_graph.specs.Vocabulary.{has, Within, Apart, graph_of, one}
use Rattle.survey_command.proofs.Answering.{answered_of}
use Rattle.survey_command.proofs.OneSets.{within_one, apart_one, some_one}
use Rattle.survey_command.proofs.tally.answer_for.Goals as goal

pub identify-requires-clause-x_within : goal.identify-requires-clause-x_within
identify-requires-clause-x_within c = subst (λ m. Within c.args.g.now.n (has m)) (sym c.one-x.ensures.mask)
    (within_one c.args.g.now.n c.args.a c.requires.first)

pub identify-requires-clause-y_within : goal.identify-requires-clause-y_within
identify-requires-clause-y_within c = subst (λ m. Within c.args.g.now.n (has m)) (sym c.one-y.ensures.mask)
    (within_one c.args.g.now.n c.args.b c.requires.second)

pub identify-requires-clause-apart : goal.identify-requires-clause-apart
identify-requires-clause-apart c =
    subst (λ m. Apart (has m) (has c.one-y.result.bits)) (sym c.one-x.ensures.mask)
    (subst (λ m. Apart (has (one c.args.a)) (has m)) (sym c.one-y.ensures.mask) (apart_one c.args.a c.args.b c.requires.differ))

pub identify-requires-clause-some : goal.identify-requires-clause-some
identify-requires-clause-some c = subst (λ m. 0 < m) (sym c.one-y.ensures.mask) (some_one c.args.b)

pub returns : goal.returns
returns c = answered_of (graph_of c.args.g.now) c.args.a c.args.b c.one-x.result.bits c.one-y.result.bits c.identify.result c.one-x.ensures.mask
    c.one-y.ensures.mask c.identify.ensures.right c.identify.ensures.exact
