use Rattle.std.proofs.Common.{drop, map}
use Rattle.prob_expr.specs.Vocabulary.{masks_of}
use Rattle.command_words.specs.Vocabulary.{names_in}
use Rattle.experiment_lists.proofs.Walked.{AreWalked}
use Rattle.experiment_lists.proofs.sets.experiment_sets.Given as goal

abbrev pub invariant-loop-experiment : goal.invariant-loop-experiment
invariant-loop-experiment l = AreWalked l.all l.observed (map names_in l.experiments) (masks_of l.sets.items)
    (map names_in (drop l.experiment-index l.experiments))
