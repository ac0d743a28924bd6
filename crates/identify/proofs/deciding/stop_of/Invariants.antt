use Rattle.mixed_graph.specs.Vocabulary.{has, Within, graph_of}
use Rattle.hedge.specs.Vocabulary.{IsInside}
use Rattle.identify.proofs.Existing.{Approaching}
use Rattle.identify.proofs.Shrinking.{size}
use Rattle.identify.proofs.deciding.stop_of.Given as goal

abbrev pub invariant-rounds : goal.invariant-rounds
invariant-rounds l = record {
  within : Within l.g.n (has l.a.bits);
  inside : IsInside l.c.bits l.a.bits;
  approaching : Approaching (graph_of l.g) l.c.bits l.initial.a.bits l.a.bits;
}

abbrev pub decreases-rounds : goal.decreases-rounds
decreases-rounds l = size l.a.bits
