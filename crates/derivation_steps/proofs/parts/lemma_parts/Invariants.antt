use Rattle.std.proofs.Common.{map, drop}
use Rattle.mixed_graph.specs.Vocabulary.{graph_of}
use Rattle.prob_expr.specs.Vocabulary.{masks_of}
use Rattle.do_derivation.specs.Vocabulary.{lemma_view}
use Rattle.derivation_steps.proofs.LemmaTurns.{IsLeft}
use Rattle.derivation_steps.proofs.parts.lemma_parts.Given as goal

abbrev pub invariant-loop-k : goal.invariant-loop-k
invariant-loop-k l = IsLeft (graph_of l.g) (masks_of l.sets.items) l.k (map lemma_view (drop l.k l.lemmas.items)) l.parts.items (map lemma_view l.lemmas.items)
