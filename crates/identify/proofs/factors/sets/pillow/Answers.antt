use Rattle.mixed_graph.specs.Vocabulary.{graph_of}
use Rattle.identify.proofs.Pillows.{pillow_is}
use Rattle.identify.proofs.factors.sets.pillow.Goals as goal

pub returns : goal.returns
returns c = pillow_is (graph_of c.args.g.now) c.args.g.now.valid c.args.s.bits c.args.v c.district_of-near.result.bits c.parents_of.result.bits
    c.difference.result.bits
    c.district_of-near.ensures.district
    (record {
      sound = λ u i. let p = (c.parents_of.ensures u).0 i in record { child = p.0; arrow = p.2; within = p.1 };
      complete = λ u p. (c.parents_of.ensures u).1 (p.child, p.within, p.arrow);
    })
    (λ u. let d = c.difference.ensures.members u in let n = c.union.ensures.members u in let a = c.intersection-above.ensures.members u in let o =
    c.one.ensures.members u in cc)
