use Rattle.derived_parts.specs.Vocabulary.{derived_views}
use Rattle.natural_id.specs.Answers.{parts_view}
use Rattle.part_checks.specs.Reading.{AreReadAs, ReadsOwn}
use Rattle.part_checks.proofs.reading.read_own.Given as goal

abbrev pub invariant-loop-part : goal.invariant-loop-part
invariant-loop-part l = AreReadAs (ReadsOwn l.x.bits) (derived_views l.yielded) (parts_view l.all.items)
