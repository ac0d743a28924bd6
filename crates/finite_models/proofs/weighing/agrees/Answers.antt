use Rattle.std.proofs.Common.{sym, ◌∙◌, length, get_or, arith}
use Rattle.mixed_graph.specs.Vocabulary.{has}
use Rattle.finite_models.proofs.Agreeing.{disagree}
use Rattle.finite_models.proofs.weighing.agrees.Goals as goal

pub returns-then-values-v : goal.returns-then-values-v
returns-then-values-v c =
    sym (disagree (length c.args.at.now) (has c.args.event.bits) (λ v. get_or c.args.values.now v 0) (λ v. get_or c.args.at.now v 0) c.loop-v.v (omega arith)
    (sym c.has.ensures ∙ c.if-has.true) c.if-values-v.true)
