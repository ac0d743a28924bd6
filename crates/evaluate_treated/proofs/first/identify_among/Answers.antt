use Rattle.evaluate_treated.specs.Requests.{request_of}
use Rattle.evaluate_treated.proofs.first.identify_among.Goals as goal

pub with_way-requires : goal.with_way-requires
with_way-requires c = ((request_of c.args.asked.now).effect, c.in-Ok.ensures.answer)

pub returns-in-Ok : goal.returns-in-Ok
returns-in-Ok c = c.with_way.ensures (request_of c.args.asked.now).effect c.in-Ok.ensures.answer
