use Rattle.mixed_graph.specs.Vocabulary.{graph_of}
use Rattle.derived_parts.specs.Vocabulary.{derived_views}
use Rattle.natural_id.specs.Answers.{parts_view}
use Rattle.part_checks.specs.Reading.{AreReadAs, ReadsThrough}
use Rattle.part_checks.proofs.reading.read_through.Given as goal

abbrev pub invariant-loop-part : goal.invariant-loop-part
invariant-loop-part l = AreReadAs (ReadsThrough (graph_of l.g) l.x.bits l.through.bits) (derived_views l.yielded) (parts_view l.all.items)
