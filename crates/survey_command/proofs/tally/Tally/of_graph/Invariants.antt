use Rattle.mixed_graph.specs.Vocabulary.{graph_of}
use Rattle.survey_command.specs.Tallies.{IsTally}
use Rattle.survey_command.proofs.tally.Tally.of_graph.Given as goal

abbrev pub invariant-loop-a : goal.invariant-loop-a
invariant-loop-a l = IsTally (graph_of l.g) l.a l.tally
