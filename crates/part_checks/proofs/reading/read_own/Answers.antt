use Rattle.part_checks.specs.Reading.{ReadsOwn}
use Rattle.part_checks.proofs.Lists.{own_read, read_next}
use Rattle.part_checks.proofs.reading.read_own.Goals as goal

pub loop-part-preserved : goal.loop-part-preserved
loop-part-preserved c = read_next (ReadsOwn c.args.x.bits) c.loop-part.yielded c.loop-part.all.items c.push.new.self.items c.in-Some.part
    c.part_of.result c.intersection-second.result.bits c.loop-part.invariant c.in_ok-push.ensures.items c.part_of.ensures
    (own_read c.args.x.bits c.in-Some.part.district.bits c.intersection-second.result.bits c.intersection-second.ensures.members)
