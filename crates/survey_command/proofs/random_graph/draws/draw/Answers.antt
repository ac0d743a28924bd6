use Rattle.survey_command.proofs.Stepping.{draw_is}
use Rattle.survey_command.proofs.random_graph.draws.draw.Goals as goal

pub returns-clause-number : goal.returns-clause-number
returns-clause-number c = draw_is c.args.state
