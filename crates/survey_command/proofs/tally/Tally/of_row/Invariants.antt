use Rattle.mixed_graph.specs.Vocabulary.{graph_of}
use Rattle.survey_command.specs.Tallies.{IsRowTally}
use Rattle.survey_command.proofs.tally.Tally.of_row.Given as goal

abbrev pub invariant-loop-b : goal.invariant-loop-b
invariant-loop-b l = IsRowTally (graph_of l.g) l.a l.b l.tally
