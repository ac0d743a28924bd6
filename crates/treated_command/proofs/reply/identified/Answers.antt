use Rattle.treated_command.proofs.reply.identified.Goals as goal

pub returns-in-Confounded : goal.returns-in-Confounded
returns-in-Confounded c = c.unidentified.ensures c.args.certified
