use Rattle.std.proofs.Common.{subst}
use Rattle.mixed_graph.proofs.Masks.{positive_from_has}
use Rattle.mixed_graph.specs.Vocabulary.{all, graph_of}
use Rattle.hedge.specs.Vocabulary.{IsDistrict}
use Rattle.identification_theory.specs.Vocabulary.{AreAncestorsIn, IsStopped}
use Rattle.identify.proofs.Existing.{approaching_none, approaching_further, whole, summed}
use Rattle.identify.proofs.Shrinking.{district_of_set, district_inside, district_holds, ancestors_inside, ancestors_hold, ancestors_below, fewer, fits_64}
use Rattle.identify.proofs.deciding.stop_of.Goals as goal
use Rattle.identify.proofs.deciding.stop_of.Goals.{After-ancestors_in-a, After-district_of-t}

-- the ancestors of c from which the rounds begin
ancestors : (c : After-ancestors_in-a) → AreAncestorsIn (graph_of c.args.g.now) (all c.args.g.now.n) c.args.c.bits c.ancestors_in-a.result.bits
ancestors c = subst (λ u. AreAncestorsIn (graph_of c.args.g.now) u c.args.c.bits c.ancestors_in-a.result.bits) c.below.ensures.mask c.ancestors_in-a.ensures

district : (c : After-district_of-t) → IsDistrict (graph_of c.args.g.now) c.rounds.a.bits c.args.c.bits c.district_of-t.result.bits
district c = district_of_set (graph_of c.args.g.now) c.args.g.now.valid c.args.c.bits c.rounds.a.bits c.rounds.invariant.inside c.lowest.result
    c.district_of-t.result.bits c.lowest.ensures.member c.requires.joined c.district_of-t.ensures.district

pub rounds-init : goal.rounds-init
rounds-init c = record {
  within = ancestors_below (graph_of c.args.g.now) c.args.c.bits c.below.result.bits c.ancestors_in-a.result.bits c.ancestors_in-a.ensures;
  inside = ancestors_hold (graph_of c.args.g.now) c.args.c.bits c.below.result.bits c.ancestors_in-a.result.bits c.ancestors_in-a.ensures c.requires.within;
  approaching = approaching_none (graph_of c.args.g.now) c.args.c.bits c.ancestors_in-a.result.bits;
}

pub lowest-requires : goal.lowest-requires
lowest-requires c = positive_from_has c.args.c.bits c.requires.some.0 c.requires.some.1

pub returns-then-t-c-clause-factor : goal.returns-then-t-c-clause-factor
returns-then-t-c-clause-factor c = let at = goal.at.returns-then-t-c-clause-factor c in record {
  a = c.ancestors_in-a.result.bits;
  ancestors = ancestors at.After-ancestors_in-a;
  factor = c.rounds.invariant.approaching.expressed (whole (graph_of c.args.g.now) c.args.g.now.valid c.args.g.now.small c.args.c.bits c.rounds.a.bits
      c.district_of-t.result.bits (district at.After-district_of-t) c.if-t-c.true);
}

pub returns-then-leading-t-clause-stop : goal.returns-then-leading-t-clause-stop
returns-then-leading-t-clause-stop c = let at = goal.at.returns-then-leading-t-clause-stop c in record {
  a = c.ancestors_in-a.result.bits;
  ancestors = ancestors at.After-ancestors_in-a;
  stops = c.rounds.invariant.approaching.stopped c.district_of-t.result.bits (IsStopped.here (district at.After-district_of-t) c.if-t-c.false
      (subst (λ u. AreAncestorsIn (graph_of c.args.g.now) c.district_of-t.result.bits c.args.c.bits u) c.if-leading-t.true c.ancestors_in-leading.ensures));
}

pub returns-then-leading-c-clause-factor : goal.returns-then-leading-c-clause-factor
returns-then-leading-c-clause-factor c = let at = goal.at.returns-then-leading-c-clause-factor c in record {
  a = c.ancestors_in-a.result.bits;
  ancestors = ancestors at.After-ancestors_in-a;
  factor = c.rounds.invariant.approaching.expressed (summed (graph_of c.args.g.now) c.args.g.now.valid c.args.g.now.small c.args.c.bits c.rounds.a.bits
      c.district_of-t.result.bits c.ancestors_in-leading.result.bits (district at.After-district_of-t) c.if-t-c.false c.ancestors_in-leading.ensures
      c.if-leading-c.true);
}

pub rounds-smaller : goal.rounds-smaller
rounds-smaller c =
    let g = graph_of c.args.g.now in
    let d = district (goal.at.rounds-smaller c).After-district_of-t in
    fewer c.ancestors_in-leading.result.bits c.district_of-t.result.bits c.rounds.a.bits
    (fits_64 c.args.g.now.n c.rounds.a.bits c.args.g.now.small c.rounds.invariant.within)
    (ancestors_inside g c.args.c.bits c.district_of-t.result.bits c.ancestors_in-leading.result.bits c.ancestors_in-leading.ensures
    (district_holds g c.args.g.now.valid c.args.c.bits c.rounds.a.bits c.rounds.invariant.inside c.district_of-t.result.bits d))
    (district_inside g c.args.g.now.valid c.args.c.bits c.rounds.a.bits c.rounds.invariant.inside c.district_of-t.result.bits d) c.if-leading-t.false

pub rounds-preserved : goal.rounds-preserved
rounds-preserved c =
    let g = graph_of c.args.g.now in
    record {
      within = ancestors_below g c.args.c.bits c.district_of-t.result.bits c.ancestors_in-leading.result.bits c.ancestors_in-leading.ensures;
      inside = ancestors_hold g c.args.c.bits c.district_of-t.result.bits c.ancestors_in-leading.result.bits c.ancestors_in-leading.ensures c.requires.within;
      approaching = approaching_further g c.args.g.now.valid c.args.g.now.small c.args.c.bits c.ancestors_in-a.result.bits c.rounds.a.bits
          c.district_of-t.result.bits c.ancestors_in-leading.result.bits (district (goal.at.rounds-preserved c).After-district_of-t) c.if-t-c.false
          c.ancestors_in-leading.ensures c.if-leading-t.false c.if-leading-c.false c.rounds.invariant.approaching;
    }
