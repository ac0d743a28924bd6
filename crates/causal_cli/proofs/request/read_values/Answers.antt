use Rattle.std.proofs.Common.{subst}
use Rattle.command_words.specs.Vocabulary.{HoldsCall}
use Rattle.causal_cli.specs.Commands.{row_for}
use Rattle.causal_cli.proofs.request.read_values.Goals as goal

pub returns-in_ok-read-in-Adjust-clause-ok : goal.returns-in_ok-read-in-Adjust-clause-ok
returns-in_ok-read-in-Adjust-clause-ok c = λ uses g. c.in_ok-read-in-Adjust.ensures.ok uses
    (subst (λ k. HoldsCall (row_for k) uses c.args.values.now) c.in-Adjust.is g)

pub returns-in_ok-read-in-Bounds-clause-ok : goal.returns-in_ok-read-in-Bounds-clause-ok
returns-in_ok-read-in-Bounds-clause-ok c = λ uses g. c.in_ok-read-in-Bounds.ensures.ok uses
    (subst (λ k. HoldsCall (row_for k) uses c.args.values.now) c.in-Bounds.is g)
