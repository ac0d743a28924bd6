use Rattle.std.proofs.Common.{◌≡◌, ◌≤◌, ◌+◌, length}
use Rattle.mixed_graph.specs.Vocabulary.{has, Within, graph_of}
use Rattle.hedge.specs.Vocabulary.{IsInside}
use Rattle.do_derivation.specs.Vocabulary.{listed}
use Rattle.identify.specs.Parts.{source_of}
use Rattle.identify.proofs.Reaching.{Reaching}
use Rattle.identify.proofs.Shrinking.{size}
use Rattle.identify.proofs.factors.rounds.factor_under.Given as goal

abbrev pub invariant-rounds : goal.invariant-rounds
invariant-rounds l = record {
  within : Within l.g.n (has l.a.bits);
  inside : IsInside l.c.bits l.a.bits;
  number : l.next ≡ l.first + length l.defs.items;
  few : length l.defs.items + size l.a.bits ≤ 64;
  paired : length l.lemmas.items ≡ length l.defs.items;
  reaching : Reaching l.wanted (graph_of l.g) (listed l.order) (source_of l.initial.from) l.c.bits l.initial.a.bits l.first l.a.bits (source_of l.from)
      l.next l.defs.items l.lemmas.items;
}

abbrev pub decreases-rounds : goal.decreases-rounds
decreases-rounds l = size l.a.bits
