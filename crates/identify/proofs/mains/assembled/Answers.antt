use Rattle.std.proofs.Common.{refl, ap, ◌∙◌}
use Rattle.mixed_graph.specs.Vocabulary.{minus}
use Rattle.prob_expr.specs.View.{view}
use Rattle.do_derivation.specs.Plans.{Plan}
use Rattle.identification_theory.specs.Vocabulary.{sum_if}
use Rattle.identify.proofs.Steps.{step-Then}
use Rattle.identify.proofs.mains.assembled.Goals as goal

pub returns : goal.returns
returns c = record {
  defs = refl;
  main = c.in_ok-main.ensures ∙ ap (λ z. sum_if z (view c.in_ok-body.body)) c.difference.ensures.mask
      ∙ ap (sum_if (minus c.args.d.bits c.args.y.bits)) c.in_ok-body.ensures;
  lemmas = refl;
  steps = λ w. step-Then c.in_ok-steps.steps ∙ ap (λ p. Plan.Then p) (c.in_ok-steps.ensures w);
}
