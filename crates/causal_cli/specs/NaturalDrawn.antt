-- What an answer of `natural` says of the diagram as drawn, with its hidden vertices: of the models of the graph that was read, whatever the mechanisms
-- of these.
use Rattle.std.specs.Prelude.{ℕ, ◌≡◌, false, List, Option}
use Rattle.mixed_graph.specs.Vocabulary.{has, graph_of}
use Rattle.replies.specs.Told.{Told}
use Rattle.told.specs.Vocabulary.{is_certified}
use Rattle.diagram.specs.declared.diagram.Diagram.{Diagram}
use Rattle.natural_id.specs.Vocabulary.{parts_view}
use Rattle.certificate.specs.Vocabulary.{part_certificate_view}
use Rattle.certificate_json.specs.Vocabulary.{parts_of}
use Rattle.parts_drawn.specs.Vocabulary.{MakeUpNestedAsDrawn}
use Rattle.natural_drawn.specs.Vocabulary.{EqualsNaturalAsDrawn, IsLostNestedAsDrawn, DifferOnNestedAsDrawn, IsIndirectNilAsDrawn, IsDirectNilAsDrawn}
use Rattle.interventional_id.specs.declared.answer.Interventional.{Interventional}
use Rattle.interventional_id.specs.Vocabulary.{IsRightAsDrawn as IsInterventionalAsDrawn}
use Rattle.natural_command.specs.Requests as natural_requests
use Rattle.natural_command.specs.declared.asking.Question.{Question}
use Rattle.natural_command.specs.declared.answer.Asked.{Asked}
use Rattle.natural_command.specs.declared.answer.Answer.{Answer}
use Rattle.natural_command.specs.declared.answer.Answer.TheVariants.{Formula, Certified, Excluded, Witness, Split}
use Rattle.natural_command.specs.Vocabulary.{IsNaturalAnswer, natural_telling}
use Rattle.causal_cli.specs.Answered.{IsAnswered}

-- where no directed path leads from x to y through the mediators the indirect effect is nil, and where none leads past them the direct one
pub record AreNilAsDrawn (d : Diagram) (q : Question) (a : Asked) : Type 0 where
  pub indirect_nil : a.indirect ≡ false
      → IsIndirectNilAsDrawn (graph_of d.read.graph) (has d.read.latent.bits) q.x.bits q.through.bits q.y.bits q.given.bits
  pub direct_nil : a.direct ≡ false
      → IsDirectNilAsDrawn (graph_of d.read.graph) (has d.read.latent.bits) q.x.bits q.through.bits q.y.bits q.given.bits

-- where the interventional effect is told, its two formulas equal the effects of which it is made, and the sum of their product equals it
abbrev pub IsAnotherAsDrawn : Diagram → Question → Option Interventional → Type 0
IsAnotherAsDrawn d q other =
    IsInterventionalAsDrawn (graph_of d.read.graph) (has d.read.latent.bits) q.x.bits q.through.bits q.y.bits q.given.bits other

-- A formula equals the nested effect, and so do the parts of a certificate. Else no formula does, and two models show it: those of the hedge for the joint
-- effect, where it has one.
abbrev pub IsNaturalAsDrawn : Diagram → Answer → Type 0
IsNaturalAsDrawn d (Formula a f) = AreNilAsDrawn d a.question a
    × EqualsNaturalAsDrawn (graph_of d.read.graph) (has d.read.latent.bits) a.question.x.bits a.question.through.bits a.question.y.bits a.question.given.bits
    f.summed.bits (parts_view f.parts.items)
IsNaturalAsDrawn d (Certified a c) = AreNilAsDrawn d a.question a
    × MakeUpNestedAsDrawn (graph_of d.read.graph) (has d.read.latent.bits) (graph_of d.observed.graph) a.question.x.bits a.question.through.bits
    a.question.y.bits a.question.given.bits (parts_of (part_certificate_view c))
IsNaturalAsDrawn d (Excluded a h pair) = AreNilAsDrawn d a.question a
    × IsLostNestedAsDrawn (graph_of d.read.graph) (has d.read.latent.bits) d.observed.graph.n a.question.x.bits a.question.through.bits a.question.y.bits
    a.question.given.bits
IsNaturalAsDrawn d (Witness a w other) = AreNilAsDrawn d a.question a
    × DifferOnNestedAsDrawn (graph_of d.read.graph) (has d.read.latent.bits) d.observed.graph.n a.question.x.bits a.question.through.bits a.question.y.bits
    a.question.given.bits
    × IsAnotherAsDrawn d a.question other
IsNaturalAsDrawn d (Split a s other) = AreNilAsDrawn d a.question a
    × DifferOnNestedAsDrawn (graph_of d.read.graph) (has d.read.latent.bits) d.observed.graph.n a.question.x.bits a.question.through.bits a.question.y.bits
    a.question.given.bits
    × IsAnotherAsDrawn d a.question other

-- the answer to a request of `natural`
abbrev pub IsNatural : natural_requests.Request → (bytes : List ℕ) (code : ℕ) (told : Told) → Type 0
IsNatural q = IsAnswered natural_telling (λ d. IsNaturalAnswer (is_certified q.form.writing) d q.x q.y q.through q.given) IsNaturalAsDrawn q.form
