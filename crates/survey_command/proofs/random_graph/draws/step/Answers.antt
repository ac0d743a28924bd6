use Rattle.survey_command.proofs.Stepping.{next_state_is}
use Rattle.survey_command.proofs.random_graph.draws.step.Goals as goal

pub returns : goal.returns
returns c = next_state_is c.args.state
