use Rattle.certificate_json.proofs.Keeping.{order_short}
use Rattle.effect_answers.proofs.kept.order_kept.Goals as goal

pub returns : goal.returns
returns c = order_short c.args.order.now
