use Rattle.std.proofs.Common.{◌≡◌, drop}
use Rattle.prob_expr.specs.Vocabulary.{views}
use Rattle.identification_theory.specs.Vocabulary.{are_trees_within}
use Rattle.short_formulas.proofs.depths.+nodes.Given as goal

abbrev pub invariant-are_trees_within-loop-factor : goal.invariant-are_trees_within-loop-factor
invariant-are_trees_within-loop-factor l = are_trees_within l.d (views (drop l.factor-index l.factor-items)) ≡ are_trees_within l.d (views l.factor-items)
