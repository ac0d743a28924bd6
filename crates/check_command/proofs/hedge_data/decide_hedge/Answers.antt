use Rattle.std.proofs.Common.{length, subst}
use Rattle.mixed_graph.specs.Vocabulary.{has, Within}
use Rattle.prob_expr.specs.Vocabulary.{target_view}
use Rattle.check_command.proofs.Using.{y_within}
use Rattle.check_command.proofs.hedge_data.decide_hedge.Goals as goal

pub holds-requires : goal.holds-requires
holds-requires c =
    subst (λ n. Within n (has c.args.target.now.y.bits)) c.args.seen.now.sized
    (y_within (length c.args.seen.now.names) (target_view c.args.target.now) c.requires.target)
