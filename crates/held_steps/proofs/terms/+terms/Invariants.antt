use Rattle.std.proofs.Common.{◌≡◌, drop}
use Rattle.prob_expr.specs.Vocabulary.{views, are_terms_each}
use Rattle.held_steps.proofs.terms.+terms.Given as goal

abbrev pub invariant-are_terms_each-loop-factor : goal.invariant-are_terms_each-loop-factor
invariant-are_terms_each-loop-factor l = are_terms_each l.n (views (drop l.factor-index l.factor-items)) ≡ are_terms_each l.n (views l.factor-items)
