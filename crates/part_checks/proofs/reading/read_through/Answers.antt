use Rattle.mixed_graph.specs.Vocabulary.{graph_of}
use Rattle.part_checks.specs.Reading.{ReadsThrough}
use Rattle.part_checks.proofs.Lists.{read_next, through_read}
use Rattle.part_checks.proofs.reading.read_through.Goals as goal

pub loop-part-preserved : goal.loop-part-preserved
loop-part-preserved c = read_next (ReadsThrough (graph_of c.args.g.now) c.args.x.bits c.args.through.bits) c.loop-part.yielded c.loop-part.all.items
    c.push.new.self.items c.in-Some.part c.part_of.result c.intersection-second.result.bits c.loop-part.invariant c.in_ok-push.ensures.items
    c.part_of.ensures
    (through_read (graph_of c.args.g.now) c.args.x.bits c.args.through.bits c.in-Some.part.district.bits c.intersection.result.bits
    c.parents_of.result.bits c.intersection-second.result.bits c.intersection.ensures.members c.parents_of.ensures c.intersection-second.ensures.members)
