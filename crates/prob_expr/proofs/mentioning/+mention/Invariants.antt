use Rattle.std.proofs.Common.{◌≡◌, drop}
use Rattle.mixed_graph.specs.Vocabulary.{union}
use Rattle.prob_expr.specs.View.{views}
use Rattle.prob_expr.specs.Mentioned.{mentioned_in_any}
use Rattle.prob_expr.proofs.mentioning.+mention.Given as goal

abbrev pub invariant-mentioned_in_factors-loop-factor : goal.invariant-mentioned_in_factors-loop-factor
invariant-mentioned_in_factors-loop-factor l = union l.all.bits (mentioned_in_any (views (drop l.factor-index l.factor-items)))
    ≡ mentioned_in_any (views l.factor-items)
