use Rattle.evaluate_natural.specs.Requests.{request_of}
use Rattle.evaluate_natural.proofs.first.identify_nested.Goals as goal

pub returns-in-Ok : goal.returns-in-Ok
returns-in-Ok c = c.with_factors.ensures (request_of c.args.asked.now).effect c.in-Ok.ensures.answer
