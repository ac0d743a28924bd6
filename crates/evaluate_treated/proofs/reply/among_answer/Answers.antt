use Rattle.std.proofs.Common.{◌<◌, sym, ap, subst, ◌∙◌}
use Rattle.paired_values.specs.Vocabulary.{read_in}
use Rattle.evaluate_treated.specs.Effects.{among_in}
use Rattle.evaluate_treated.proofs.Evaluable.{read_some}
use Rattle.evaluate_treated.proofs.reply.among_answer.Goals as goal

pub read_counts-requires-clause-some : goal.read_counts-requires-clause-some
read_counts-requires-clause-some c =
    subst (λ m. 0 < m) (sym (c.read_for-read.ensures ∙ ap read_in c.paired.ensures))
    (read_some (among_in c.args.seen.now c.args.found.now) c.requires.held.identified)
