use Rattle.std.proofs.Common.{ap, length, ◌∙◌, arith}
use Rattle.std.proofs.lemmas.Grind.{common_steps}
use Rattle.do_derivation.specs.Vocabulary.{step_view}
use Rattle.identify.specs.Lists.{onto}
use Rattle.identify.proofs.Steps.{onto_more, placed}
use Rattle.identify.proofs.factors.pushing.push_at.Goals as goal

pub returns : goal.returns
returns c = λ rest.
    ap (λ l. onto l rest) c.in_ok-push.ensures.items ∙ onto_more c.args.out.now.items c.in_ok-at.field-0 rest
    ∙ ap (onto c.args.out.now.items) (placed c.args.list.items c.args.i (step_view c.in_ok-at.field-0) rest
    (λ e. absurd (let n = ap length e in grind (arith, common_steps))) c.in_ok-at.ensures)
