use Rattle.std.proofs.Common.{refl, subst}
use Rattle.mixed_graph.specs.Vocabulary.{MixedGraph, graph_of}
use Rattle.survey_command.specs.Right.{IsSurvey}
use Rattle.survey_command.specs.declared.answer.Survey.{Survey}
use Rattle.survey_command.proofs.Surveying.{surveyed}
use Rattle.survey_command.proofs.reply.survey.Goals as goal

pub returns : goal.returns
returns c =
    let g = c.survey_graph-graph.result in
    let a : Survey = record {
      seed = c.args.seed;
      vertices = g.n;
      directed = c.directed_count.result;
      bidirected = c.bidirected_count.result;
      tally = c.in_ok-tally.tally;
    } in
    subst (λ (q : MixedGraph). IsSurvey c.args.seed q a) c.survey_graph-graph.ensures
    (surveyed c.args.seed (graph_of g) a refl refl c.directed_count.ensures c.bidirected_count.ensures c.in_ok-tally.ensures)
