use Rattle.command_run.proofs.OneRequest.{words_ask_once}
use Rattle.causal_cli.specs.Commands.{commands}
use Rattle.causal_cli.proofs.Lawful.{lawful}
use Rattle.causal_cli.proofs.Texts.{texts_are_one}
use Rattle.causal_cli.proofs.theory.laws.Goals as goal

pub returns : goal.returns
returns c = record { once = words_ask_once commands lawful; texts = texts_are_one }
