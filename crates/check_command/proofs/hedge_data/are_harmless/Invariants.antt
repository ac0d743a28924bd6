use Rattle.std.proofs.Common.{◌≡◌, drop}
use Rattle.std.specs.List.{list_all}
use Rattle.prob_expr.specs.Vocabulary.{masks_of}
use Rattle.check_command.specs.Replies.{is_harmless}
use Rattle.check_command.proofs.hedge_data.are_harmless.Given as goal

abbrev pub invariant-loop-z : goal.invariant-loop-z
invariant-loop-z l = list_all (is_harmless l.hedge) (masks_of (drop l.z-index l.experiments)) ≡ list_all (is_harmless l.hedge) (masks_of l.experiments)
