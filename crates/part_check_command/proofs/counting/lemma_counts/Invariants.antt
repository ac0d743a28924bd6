use Rattle.std.proofs.Common.{◌≡◌, take}
use Rattle.derived_parts.specs.Vocabulary.{derived_views}
use Rattle.part_check_command.specs.Right.{lemma_counts}
use Rattle.part_check_command.proofs.counting.lemma_counts.Given as goal

abbrev pub invariant-loop-part : goal.invariant-loop-part
invariant-loop-part l = l.counts.items ≡ lemma_counts (derived_views (take l.part-index l.part-items))
