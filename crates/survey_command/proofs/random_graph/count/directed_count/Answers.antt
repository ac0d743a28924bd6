use Rattle.std.proofs.Common.{◌∙◌}
use Rattle.mixed_graph.specs.Vocabulary.{graph_of}
use Rattle.survey_command.proofs.Counting.{arrows_counted}
use Rattle.survey_command.proofs.random_graph.count.directed_count.Goals as goal

pub returns : goal.returns
returns c = c.count_rows.ensures ∙ arrows_counted (graph_of c.args.g.now) c.args.g.now.valid c.args.g.now.small
