use Rattle.std.proofs.Common.{subst}
use Rattle.mixed_graph.specs.Vocabulary.{graph_of}
use Rattle.prob_expr.specs.Vocabulary.{masks_of}
use Rattle.surrogates.specs.Tries.{IsAttemptOf}
use Rattle.surrogates.proofs.Passing.{all_stop, none_before}
use Rattle.surrogates.proofs.tries.after_stop.Goals as goal

pub returns-in-Some-clause-tried : goal.returns-in-Some-clause-tried
returns-in-Some-clause-tried c = none_before (graph_of c.args.g.now) c.args.c.bits (masks_of c.args.experiments.now)
    c.args.first c.args.big.bits c.in-Some.factor c.requires.stopped
    (subst (IsAttemptOf (graph_of c.args.g.now) (masks_of c.args.experiments.now) c.args.c.bits c.args.first) c.in-Some.is c.in-Ok.ensures)

pub returns-in-None-clause-fault : goal.returns-in-None-clause-fault
returns-in-None-clause-fault c = (
  c.requires.stopped,
  all_stop (graph_of c.args.g.now) c.args.c.bits (masks_of c.args.experiments.now)
      (subst (IsAttemptOf (graph_of c.args.g.now) (masks_of c.args.experiments.now) c.args.c.bits c.args.first) c.in-None.is c.in-Ok.ensures),
)
