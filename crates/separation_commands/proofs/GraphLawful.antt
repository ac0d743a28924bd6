-- The command's words ask for one request, and its answers have one outcome.
use Rattle.std.proofs.Common.{◌≡◌, Bool, List, Result, Ok, Err, refl, sym, ◌∙◌}
use Rattle.std.proofs.lemmas.Option.{same_Some}
use Rattle.command_words.specs.Vocabulary.{Use}
use Rattle.targets.specs.declared.fault.TargetFault.{TargetFault}
use Rattle.diagram.specs.declared.diagram.Diagram.{Diagram}
use Rattle.replies.specs.declared.outcome.Outcome.TheVariants.{Yes}
use Rattle.replies.proofs.Commands.{IsLawful, lawful_on_file}
use Rattle.told.specs.Vocabulary.{plain_form, target_refusal, outcome_in}
use Rattle.told.proofs.ToldOnce.{told_answered}
use Rattle.separation_commands.specs.GraphRequests.{Request, IsRequest}
use Rattle.separation_commands.specs.GraphCommand.{graph_command}
use Rattle.separation_commands.specs.GraphRight.{IsGraphAnswer}
use Rattle.separation_commands.specs.GraphTelling.{graph_telling}
use Rattle.separation_commands.specs.declared.graph.answer.Answer.{Answer}

-- the uses ask for one request
one_request : (uses : List Use) (q r : Request) → IsRequest uses q → IsRequest uses r → r ≡ q
one_request uses q r a b = λ i. record {
  file = same_Some r.file q.file (sym b.file ∙ a.file) i;
  project = (sym b.project ∙ a.project) i;
  format = (b.format ∙ sym a.format) i;
}

-- the answer of a graph is yes
yes_alone : (project : Bool) (d : Diagram) (r : Result Answer TargetFault) → IsGraphAnswer project d r → outcome_in graph_telling target_refusal r ≡ Yes
yes_alone project d (Ok a) right = refl
yes_alone project d (Err fault) right = absurd right

-- what holds of each command holds of it
pub graph_lawful : IsLawful graph_command
graph_lawful = lawful_on_file one_request
    (λ q d. told_answered graph_telling target_refusal (λ a. tt) (λ fault. tt) (IsGraphAnswer q.project d) (plain_form q.format) d.observed.names)
    (λ q bytes o p told other a b.
    a.given.ends ∙ yes_alone q.project a.diagram a.given.answer a.given.right
    ∙ sym (b.given.ends ∙ yes_alone q.project b.diagram b.given.answer b.given.right))
