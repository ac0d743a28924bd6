use Rattle.std.proofs.Common.{subst}
use Rattle.mixed_graph.proofs.Masks.{positive_from_has}
use Rattle.mixed_graph.specs.Vocabulary.{graph_of}
use Rattle.hedge.specs.Vocabulary.{IsDistrict}
use Rattle.identification_theory.specs.Vocabulary.{IsStopped, AreAncestorsIn}
use Rattle.identify.specs.Parts.{source_of}
use Rattle.identify.specs.Rounds.{IsSummed}
use Rattle.identify.proofs.Shrinking.{district_of_set}
use Rattle.identify.proofs.Reaching.{done_whole, done_summed}
use Rattle.identify.proofs.factors.rounds.next_round.Goals as goal
use Rattle.identify.proofs.factors.rounds.next_round.Goals.{After-district_of-t}

pub lowest-requires : goal.lowest-requires
lowest-requires c = positive_from_has c.args.c.bits c.requires.some.0 c.requires.some.1

district : (c : After-district_of-t) → IsDistrict (graph_of c.args.g.now) c.args.a.bits c.args.c.bits c.district_of-t.result.bits
district c = district_of_set (graph_of c.args.g.now) c.args.g.now.valid c.args.c.bits c.args.a.bits c.requires.inside c.lowest.result
    c.district_of-t.result.bits c.lowest.ensures.member c.requires.joined
    c.district_of-t.ensures.district

pub returns-then-t-c-clause-round : goal.returns-then-t-c-clause-round
returns-then-t-c-clause-round c = done_whole c.args.wanted (graph_of c.args.g.now) c.args.order.now c.args.c.bits c.args.a.bits (source_of c.args.from)
    c.district_of-t.result.bits c.in_ok-body_of.field-0
    (district (goal.at.returns-then-t-c-clause-round c).After-district_of-t) c.if-t-c.true c.in_ok-body_of.ensures

pub returns-then-leading-t-clause-fault : goal.returns-then-leading-t-clause-fault
returns-then-leading-t-clause-fault c = IsStopped.here (district (goal.at.returns-then-leading-t-clause-fault c).After-district_of-t) c.if-t-c.false
    (subst (λ u. AreAncestorsIn (graph_of c.args.g.now) c.district_of-t.result.bits c.args.c.bits u) c.if-leading-t.true c.ancestors_in-leading.ensures)

pub returns-then-leading-c-clause-round : goal.returns-then-leading-c-clause-round
returns-then-leading-c-clause-round c = done_summed c.args.wanted (graph_of c.args.g.now) c.args.order.now c.args.c.bits c.args.a.bits (source_of c.args.from)
    c.district_of-t.result.bits c.ancestors_in-leading.result.bits
    c.in_ok-body.body c.in_ok-body-2.body (district (goal.at.returns-then-leading-c-clause-round c).After-district_of-t)
    c.if-t-c.false c.ancestors_in-leading.ensures c.if-leading-c.true c.in_ok-body.ensures
    (subst (λ z. IsSummed c.args.wanted z c.in_ok-body.body c.in_ok-body-2.body) c.difference.ensures.mask c.in_ok-body-2.ensures)

pub returns-clause-round : goal.returns-clause-round
returns-clause-round c = record {
  t = c.district_of-t.result.bits;
  district = district (goal.at.returns-clause-round c).After-district_of-t;
  larger = c.if-t-c.false;
  leads = c.ancestors_in-leading.ensures;
  smaller = c.if-leading-t.false;
  more = c.if-leading-c.false;
  whole = c.in_ok-body.body;
  is_whole = c.in_ok-body.ensures;
  is_summed = subst (λ z. IsSummed c.args.wanted z c.in_ok-body.body c.in_ok-body-2.body) c.difference.ensures.mask c.in_ok-body-2.ensures;
}
