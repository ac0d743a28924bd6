-- From the tally of a graph to its survey.
use Rattle.std.proofs.Common.{ℕ, ◌≡◌, subst}
use Rattle.mixed_graph.specs.Vocabulary.{MixedGraph}
use Rattle.survey_command.specs.Counts.{arrow_count, spouse_count}
use Rattle.survey_command.specs.Right.{IsSurvey}
use Rattle.survey_command.specs.Tallies.{IsAnswerFor, IsTally}
use Rattle.survey_command.specs.declared.answer.Survey.{Survey}

pub surveyed : (seed : ℕ) (g : MixedGraph) (a : Survey) → a.seed ≡ seed → a.vertices ≡ g.vertices → a.directed ≡ arrow_count g
    → a.bidirected ≡ spouse_count g → IsTally g g.vertices a.tally → IsSurvey seed g a
surveyed seed g a seed_is vertices directed bidirected tally = record {
  is_hedged = tally.is_hedged;
  hedged = λ u v two e. subst (IsAnswerFor g u v) e (tally.right u v two.first two.second two.differ);
  unhedged = λ u v two e. (subst (IsAnswerFor g u v) e (tally.right u v two.first two.second two.differ)).0;
  identified = λ u v two e. (subst (IsAnswerFor g u v) e (tally.right u v two.first two.second two.differ)).1;
  seed_is = seed_is;
  vertices = vertices;
  directed = directed;
  bidirected = bidirected;
  formulas = tally.formulas;
  hedges = tally.hedges;
}
