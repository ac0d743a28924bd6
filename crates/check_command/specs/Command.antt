-- Commands on a diagram and a certificate.
use Rattle.std.specs.Prelude.{ℕ, List, Some, Result}
use Rattle.command_words.specs.Vocabulary.{Text}
use Rattle.mixed_graph.specs.Vocabulary.{MixedGraph, graph_of}
use Rattle.diagram.specs.declared.diagram.Diagram.{Diagram}
use Rattle.replies.specs.declared.format.Format.{Format}
use Rattle.replies.specs.Vocabulary.{CommandForm, Remainder}
use Rattle.told.specs.Telling.{Telling}
use Rattle.told.specs.Vocabulary.{Refusal, plain_form, Tells, told_on_two_inputs}
use Rattle.experiment_lists.specs.Vocabulary.{Lists}
use Rattle.check_command.specs.Requests.{Request, IsRequest}
use Rattle.check_command.specs.Right.{AreExperimentsOn, IsForFirst}

-- the request and the answers of a command, by what it tells of an answer or a fault, and by which are right in an observed graph with these names, for
-- experiments on sets and the bytes of a certificate
abbrev pub on_certificate : {A F : Type 0} → Telling A → Refusal F → (MixedGraph → List (List ℕ) → (zs bytes : List ℕ) → Result A F → Type 0) → CommandForm
on_certificate t f right = told_on_two_inputs Request IsRequest (λ q. plain_form q.format) (λ q. q.file) (λ q. Some q.certificate) t f
    (λ q d. IsForFirst d q.experiments) (λ q d. AreExperimentsOn d.read.names d.observed.names q.experiments)
    (λ q d. right (graph_of d.observed.graph) d.observed.names)

-- what is left on a diagram once the experiments were found: the certificate
abbrev pub left_on_certificate : {A F : Type 0} → Telling A → Refusal F → (MixedGraph → List (List ℕ) → (zs bytes : List ℕ) → Result A F → Type 0)
    → Format → Diagram → List ℕ → Text → Remainder
left_on_certificate t f right format d zs certificate = record {
  second = certificate;
  limit = 67108864;
  known = (experiments : Lists) × AreExperimentsOn d.read.names d.observed.names experiments zs;
  answer = λ other. Tells t f (right (graph_of d.observed.graph) d.observed.names zs other) (plain_form format) d.observed.names;
}
