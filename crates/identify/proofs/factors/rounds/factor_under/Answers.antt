use Rattle.std.proofs.Common.{◌<◌, ◌+◌, ◌^◌, length, sym, ap, ◌∙◌, subst, arith, rules}
use Rattle.mixed_graph.specs.Vocabulary.{has, graph_of}
use Rattle.mixed_graph.proofs.Members.{length-members-le}
use Rattle.do_derivation.specs.Vocabulary.{listed}
use Rattle.identification_theory.specs.Vocabulary.{AreAncestorsIn, Source}
use Rattle.identify.specs.Parts.{source_of}
use Rattle.identify.specs.Rounds.{IsRound}
use Rattle.identify.proofs.FactorOrders.{entry_below}
use Rattle.identify.proofs.Steps.{lemma_of}
use Rattle.identify.proofs.Shrinking.{some_size, fits_64, ancestors_hold, ancestors_below}
use Rattle.identify.proofs.Reaching.{reaching_none, reaching_further, reached, shrinks}
use Rattle.identify.proofs.factors.rounds.factor_under.Goals as goal

pub rounds-init : goal.rounds-init
rounds-init c =
    let no_defs = c.new-defs.ensures.items in
    let no_lemmas = c.new-lemmas.ensures.items in
    let few = length-members-le (has c.ancestors_in-a.result.bits) 64 in
    record {
      within = ancestors_below (graph_of c.args.g.now) c.args.c.bits c.below.result.bits c.ancestors_in-a.result.bits c.ancestors_in-a.ensures;
      inside = ancestors_hold (graph_of c.args.g.now) c.args.c.bits c.below.result.bits c.ancestors_in-a.result.bits c.ancestors_in-a.ensures c.requires.within;
      number = omega (arith, ap length no_defs);
      few = omega (arith, ap length no_defs, few);
      paired = ap length no_lemmas ∙ sym (ap length no_defs);
      reaching = reaching_none c.args.wanted (graph_of c.args.g.now) (listed c.args.order.now) (Source.Under c.args.z.bits)
          c.args.c.bits c.ancestors_in-a.result.bits c.args.first c.new-defs.result.items c.new-lemmas.result.items no_defs no_lemmas;
    }

pub next_round-requires-clause-vertices : goal.next_round-requires-clause-vertices
next_round-requires-clause-vertices c = entry_below (graph_of c.args.g.now) c.args.order.now.list c.args.order.now.count c.requires.order

pub returns-in-Done-clause-factor : goal.returns-in-Done-clause-factor
returns-in-Done-clause-factor c =
    let d = subst (IsRound c.args.wanted (graph_of c.args.g.now) (listed c.args.order.now) c.args.c.bits c.rounds.a.bits (source_of c.rounds.from))
    c.in-Done.is c.in-Ok.ensures.round in
    let r = reached c.args.wanted (graph_of c.args.g.now) (listed c.args.order.now) (Source.Under c.args.z.bits)
    c.args.c.bits c.ancestors_in-a.result.bits c.args.first c.rounds.a.bits (source_of c.rounds.from) c.rounds.next
    c.rounds.defs.items c.rounds.lemmas.items c.in-Done.field-0 d c.rounds.invariant.reaching in
    record {
      a = c.ancestors_in-a.result.bits;
      ancestors = subst (λ u. AreAncestorsIn (graph_of c.args.g.now) u c.args.c.bits c.ancestors_in-a.result.bits)
          c.below.ensures.mask c.ancestors_in-a.ensures;
      factor = r.0;
      steps = r.1;
    }

pub overflow_add-next : goal.overflow_add-next
overflow_add-next c =
    let s = some_size c.rounds.a.bits c.requires.some.0 (fits_64 c.args.g.now.n c.rounds.a.bits c.args.g.now.small c.rounds.invariant.within)
    (c.rounds.invariant.inside c.requires.some.0 c.requires.some.1) in
    let l : c.rounds.next + 1 < 2 ^ 32 = omega (arith, s, c.rounds.invariant.number, c.rounds.invariant.few, c.requires.room) in
    search (rules, l)

pub rounds-smaller : goal.rounds-smaller
rounds-smaller c =
    let k = subst (IsRound c.args.wanted (graph_of c.args.g.now) (listed c.args.order.now) c.args.c.bits c.rounds.a.bits (source_of c.rounds.from))
    c.in-Further.is c.in-Ok.ensures.round in
    shrinks c.args.wanted (graph_of c.args.g.now) c.args.g.now.valid (listed c.args.order.now) c.args.c.bits c.rounds.a.bits (source_of c.rounds.from)
    c.in-Further.set.bits c.in-Further.field-1 k c.rounds.invariant.inside
    (fits_64 c.args.g.now.n c.rounds.a.bits c.args.g.now.small c.rounds.invariant.within)

pub rounds-preserved : goal.rounds-preserved
rounds-preserved c =
    let k = subst (IsRound c.args.wanted (graph_of c.args.g.now) (listed c.args.order.now) c.args.c.bits c.rounds.a.bits (source_of c.rounds.from))
    c.in-Further.is c.in-Ok.ensures.round in
    let s = shrinks c.args.wanted (graph_of c.args.g.now) c.args.g.now.valid (listed c.args.order.now) c.args.c.bits c.rounds.a.bits (source_of c.rounds.from)
    c.in-Further.set.bits c.in-Further.field-1 k c.rounds.invariant.inside
    (fits_64 c.args.g.now.n c.rounds.a.bits c.args.g.now.small c.rounds.invariant.within) in
    let d = c.in_ok-push-in-Further.ensures.len in
    let l = c.in_ok-push-in-Further-2.ensures.len in
    record {
      within = ancestors_below (graph_of c.args.g.now) c.args.c.bits k.t c.in-Further.set.bits k.leads;
      inside = ancestors_hold (graph_of c.args.g.now) c.args.c.bits k.t c.in-Further.set.bits k.leads c.requires.within;
      number = omega (arith, d, c.rounds.invariant.number);
      few = omega (arith, d, s, c.rounds.invariant.few);
      paired = omega (arith, d, l, c.rounds.invariant.paired);
      reaching = reaching_further c.args.wanted (graph_of c.args.g.now) (listed c.args.order.now) (Source.Under c.args.z.bits)
          c.args.c.bits c.ancestors_in-a.result.bits c.args.first c.rounds.a.bits (source_of c.rounds.from) c.in-Further.set c.rounds.next
          c.rounds.defs.items c.push.new.self.items c.rounds.lemmas.items c.push-in-Further.new.self.items c.in-Further.field-1 _ k
          c.in_ok-push-in-Further.ensures.items c.in_ok-push-in-Further-2.ensures.items
          (lemma_of c.in-Further.set c.in-Further.field-1.steps) c.rounds.invariant.reaching;
    }
