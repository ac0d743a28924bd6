use Rattle.std.proofs.Common.{◌<◌, sym, ap, subst, ◌∙◌, rules}
use Rattle.mixed_graph.specs.Vocabulary.{has, graph_of}
use Rattle.implications_command.specs.Pairs.{pairs_in}
use Rattle.implications_command.proofs.Measuring.{refuted}
use Rattle.implications_command.proofs.Using.{some, within}
use Rattle.implications_command.proofs.reply.differences_answer.Goals as goal

pub read_counts-requires-clause-some : goal.read_counts-requires-clause-some
read_counts-requires-clause-some c = subst (λ m. 0 < m) (sym c.used_in.ensures) (some (pairs_in c.args.seen.now c.args.list.now) c.requires.pairs)

pub read_counts-requires-clause-named : goal.read_counts-requires-clause-named
read_counts-requires-clause-named c = λ v h.
    within (pairs_in c.args.seen.now c.args.list.now) c.requires.pairs v (ap (λ m. has m v) (sym c.used_in.ensures) ∙ h)

pub returns-in_ok-measured-in-Ok-clause-answer : goal.returns-in_ok-measured-in-Ok-clause-answer
returns-in_ok-measured-in-Ok-clause-answer c =
    let measured = c.in_ok-measured-in-Ok.ensures in (
      search rules,
      measured,
      refuted (graph_of c.args.seen.now.graph) c.in-Ok.counts c.in_ok-measured-in-Ok.measured.items measured.matched,
    )
