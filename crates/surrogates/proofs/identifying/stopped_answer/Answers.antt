use Rattle.std.proofs.Common.{arith}
use Rattle.mixed_graph.specs.Vocabulary.{graph_of}
use Rattle.prob_expr.specs.Vocabulary.{masks_of}
use Rattle.identify.proofs.RightAnswers.{target_from}
use Rattle.surrogates.proofs.Answered.{stop_has_hedge}
use Rattle.surrogates.proofs.RightAnswers.{stop_shown}
use Rattle.surrogates.proofs.identifying.stopped_answer.Goals as goal

pub hedge_of-requires-clause-hedge : goal.hedge_of-requires-clause-hedge
hedge_of-requires-clause-hedge c =
    let g = graph_of c.args.g.now in
    let target = target_from g c.args.x.bits c.args.y.bits c.requires.x_within c.requires.y_within c.requires.apart c.requires.some (omega arith) in
    λ roots are. stop_has_hedge g c.args.g.now.valid
    (masks_of c.args.experiments.now) c.args.x.bits c.args.y.bits c.args.small.bits c.args.big.bits roots target c.requires.stop are

pub returns-clause-answer : goal.returns-clause-answer
returns-clause-answer c =
    let g = graph_of c.args.g.now in
    let zs = masks_of c.args.experiments.now in
    let target = target_from g c.args.x.bits c.args.y.bits c.requires.x_within c.requires.y_within c.requires.apart c.requires.some (omega arith) in
    let is = c.in_ok-hedge.ensures in (
      stop_shown g c.args.g.now.valid zs c.args.x.bits c.args.y.bits target c.args.small c.args.big c.requires.stop
          c.in_ok-hedge.hedge c.in_ok-hedge.pair is.small is.big is.data is.hedge is.pair,
      c.in_ok-common.ensures,
    )
