use Rattle.mixed_graph.specs.Vocabulary.{graph_of}
use Rattle.do_derivation.proofs.Defining.{IsDefining}
use Rattle.do_derivation.proofs.checking.define.Given as goal

abbrev pub invariant-loop-k : goal.invariant-loop-k
invariant-loop-k l = IsDefining (graph_of l.g) l.lemmas.items l.defs.items l.sets.items l.k
