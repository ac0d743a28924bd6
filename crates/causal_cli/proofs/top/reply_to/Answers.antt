use Rattle.std.proofs.Common.{refl}
use Rattle.causal_cli.proofs.Lawful.{lawful}
use Rattle.causal_cli.proofs.top.reply_to.Goals as goal

pub reply_to-requires : goal.reply_to-requires
reply_to-requires g c κs = ((refl, tt), lawful)
