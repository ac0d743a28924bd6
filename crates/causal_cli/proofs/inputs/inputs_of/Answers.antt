use Rattle.std.proofs.Common.{◌≡◌, Err, refl, ap}
use Rattle.command_words.specs.declared.typed.RequestFault.TheVariants.{NotUnderstood}
use Rattle.causal_cli.proofs.Lawful.{lawful}
use Rattle.causal_cli.proofs.inputs.inputs_of.Goals as goal

pub read_request-requires : goal.read_request-requires
read_request-requires c κs = ((refl, tt), lawful)

pub returns-in-Err-clause-none : goal.returns-in-Err-clause-none
returns-in-Err-clause-none c = λ e. let same : c.in-Err.fault ≡ NotUnderstood = cc in c.in-Err.ensures.none (ap (λ f. Err f) same)
