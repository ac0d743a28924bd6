use Rattle.std.proofs.Common.{take, map}
use Rattle.mixed_graph.specs.declared.sets.VSet.{VSet}
use Rattle.mixed_graph.specs.Vocabulary.{graph_of}
use Rattle.natural_id.proofs.Making.{AreMade}
use Rattle.natural_id.proofs.parts.parts_of.Given as goal

abbrev pub invariant-loop-c : goal.invariant-loop-c
invariant-loop-c l = AreMade (graph_of l.g) l.x.bits l.through.bits (map (λ (s : VSet). s.bits) (take l.c-index l.c-items)) l.parts.items
