use Rattle.told.specs.Vocabulary.{plain_form}
use Rattle.causal_cli.proofs.request.explain_over.Goals as goal

pub returns-in-Refused : goal.returns-in-Refused
returns-in-Refused c = (rw c.in-Refused.is at c.in_ok-reply.ensures) (plain_form c.args.asked.format)
