use Rattle.std.proofs.Common.{◌≢◌, sym, ◌∙◌}
use Rattle.mixed_graph.specs.Vocabulary.{graph_of}
use Rattle.markov_equivalence.specs.Skeletons.{is_adjacent}
use Rattle.markov_equivalence.proofs.FirstPairs.{ascending}
use Rattle.markov_equivalence.proofs.firsts.first_edge.Goals as goal

pub returns-in-Some-clause-found : goal.returns-in-Some-clause-found
returns-in-Some-clause-found c = record {
  ascends = ascending (graph_of c.args.g.now) (graph_of c.args.h.now) c.args.g.now.valid c.args.h.now.valid c.loop-a.a c.in-Some.b c.loop-a.invariant differ;
  differs = differ;
  before_a = λ x y _ lt. c.loop-a.invariant x y lt;
  before_b = λ y _ lt. sym (c.neighbours.ensures y) ∙ c.in-Some.ensures.lowest y lt ∙ c.neighbours-in-loop-a.ensures y;
}
  where
    differ : is_adjacent (graph_of c.args.g.now) c.loop-a.a c.in-Some.b ≢ is_adjacent (graph_of c.args.h.now) c.loop-a.a c.in-Some.b
    differ e = c.in-Some.ensures.differs (c.neighbours.ensures c.in-Some.b ∙ e ∙ sym (c.neighbours-in-loop-a.ensures c.in-Some.b))
