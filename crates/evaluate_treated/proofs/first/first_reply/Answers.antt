use Rattle.evaluate_treated.proofs.Replied.{first_told}
use Rattle.evaluate_treated.proofs.first.first_reply.Goals as goal

pub returns : goal.returns
returns c = λ q is. first_told c.args.diagram.now q c.args.form c.args.diagram.now.observed.names c.args.answer.now is c.reply.result
    c.reply.ensures.outcome c.reply.ensures.told c.reply.ensures.memory
