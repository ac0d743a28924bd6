use Rattle.std.proofs.Common.{sym, ap, ◌∙◌}
use Rattle.do_derivation.specs.Vocabulary.{no_plans}
use Rattle.identification_theory.specs.Vocabulary.{at_each}
use Rattle.identify.specs.Lists.{onto, lists_view}
use Rattle.identify.proofs.Steps.{onto_nothing}
use Rattle.identify.proofs.factors.body.at_each.Goals as goal

pub returns : goal.returns
returns c = sym (onto_nothing c.push_each.new.out.items) ∙ c.in_ok-push_each.ensures no_plans
    ∙ ap (λ l. onto l (at_each 0 (lists_view c.args.lists.items) no_plans)) c.in_ok-steps.ensures.items
