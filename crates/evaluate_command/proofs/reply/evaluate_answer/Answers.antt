use Rattle.std.proofs.Common.{◌<◌, sym, ap, subst, ◌∙◌, arith}
use Rattle.mixed_graph.specs.Vocabulary.{has}
use Rattle.evaluate_command.specs.Effects.{effect_in}
use Rattle.evaluate_command.proofs.Evaluable.{used_some}
use Rattle.evaluate_command.proofs.reply.evaluate_answer.Goals as goal

pub read_counts-requires-clause-some : goal.read_counts-requires-clause-some
read_counts-requires-clause-some c = subst (λ m. 0 < m) (sym c.used_in.ensures)
    (used_some (effect_in c.args.seen.now c.args.found.now) c.requires.identified.some)

pub read_counts-requires-clause-named : goal.read_counts-requires-clause-named
read_counts-requires-clause-named c = λ v h.
    (let lt = c.requires.identified.used v (ap (λ m. has m v) (sym c.used_in.ensures) ∙ h) in let n = c.requires.identified.named in omega (arith, lt, n))
