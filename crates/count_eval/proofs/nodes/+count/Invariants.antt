use Rattle.std.proofs.Common.{◌≡◌, drop}
use Rattle.prob_expr.specs.Vocabulary.{views}
use Rattle.count_eval.specs.Evaluated.{node_behind_all}
use Rattle.count_eval.proofs.nodes.+count.Given as goal

abbrev pub invariant-behind_factors-loop-factor : goal.invariant-behind_factors-loop-factor
invariant-behind_factors-loop-factor l = node_behind_all (views (drop l.factor-index l.factor-items)) l.node ≡ node_behind_all (views l.factor-items) l.first
