-- What right answers of `natural` say of the diagram as drawn, and from the end of a run to those that were told.
use Rattle.std.proofs.Common.{ℕ, ◌≡◌, ◌<◌, ◌≤◌, Bool, true, false, List, Option, Some, None, Ok, refl, sym, subst, arith}
use Rattle.std.specs.Io.KnownBytes.{Appends}
use Rattle.mixed_graph.specs.Vocabulary.{has, MixedGraph, union, graph_of}
use Rattle.prob_expr.specs.Vocabulary.{formula_view}
use Rattle.command_words.specs.Vocabulary.{Use}
use Rattle.replies.specs.declared.outcome.Outcome.{Outcome}
use Rattle.replies.specs.Vocabulary.{code_of}
use Rattle.replies.specs.Told.{Told}
use Rattle.told.specs.Vocabulary.{is_certified}
use Rattle.diagram.specs.declared.diagram.Diagram.{Diagram}
use Rattle.diagram.specs.Vocabulary.{IsObservedGraph, Names}
use Rattle.diagram.proofs.ObservedParts.{part_of}
use Rattle.natural_id.specs.Vocabulary.{parts_view, IsLostNested, IsNaturalTarget}
use Rattle.natural_drawn.specs.Vocabulary.{EqualsNaturalAsDrawn, IsLostNestedAsDrawn, DifferOnNestedAsDrawn}
use Rattle.natural_drawn.proofs.Differing.{nested_difference_is_drawn}
use Rattle.natural_drawn.proofs.Formulas.{right_parts_are_drawn}
use Rattle.natural_drawn.proofs.Lost.{nested_lost_is_drawn}
use Rattle.certificate.specs.Vocabulary.{PlainPartCertificate, part_certificate_view}
use Rattle.certificate_json.specs.Vocabulary.{parts_of}
use Rattle.parts_drawn.specs.Vocabulary.{MakeUpNestedAsDrawn}
use Rattle.parts_drawn.proofs.Accepted.{accepted_nested_make_up}
use Rattle.natural_drawn.proofs.Nil.{no_indirect_path_is_drawn, no_direct_path_is_drawn}
use Rattle.interventional_id.specs.declared.answer.Interventional.{Interventional}
use Rattle.interventional_id.specs.Vocabulary.{IsRight as IsInterventional}
use Rattle.interventional_id.proofs.Drawing.{interventional_is_drawn}
use Rattle.natural_command.specs.declared.asking.Question.{Question}
use Rattle.natural_command.specs.declared.answer.Asked.{Asked}
use Rattle.natural_command.specs.declared.answer.Answer.{Answer}
use Rattle.natural_command.specs.declared.answer.Answer.TheVariants.{Formula, Certified, Excluded, Witness, Split}
use Rattle.natural_command.specs.declared.fault.NaturalFault.{NaturalFault}
use Rattle.natural_command.specs.Vocabulary.{natural_lists, natural_refusal, IsAskedFor, Decides, IsNaturalAnswer, natural_telling}
use Rattle.natural_command.specs.Requests as natural_requests
use Rattle.natural_command.proofs.Naming.{four_sets}
use Rattle.natural_command.proofs.Ways.{target_of}
use Rattle.command_run.specs.Vocabulary.{HoldsAnswer, Defined, Request, of}
use Rattle.causal_cli.specs.Calls.{Call, WrittenFor}
use Rattle.causal_cli.specs.Commands.{commands}
use Rattle.causal_cli.specs.NaturalDrawn.{AreNilAsDrawn, IsAnotherAsDrawn, IsNaturalAsDrawn, IsNatural}
use Rattle.causal_cli.specs.declared.commands.Command.TheVariants.{Natural}
use Rattle.causal_cli.proofs.AsDrawn.{effect_lost}
use Rattle.causal_cli.proofs.CallAnswers.{CallAnswer, written_for}
use Rattle.causal_cli.proofs.ToldAnswers.{answered}

-- ---- a right answer

module _ (d : Diagram) (q : Question) (target : IsNaturalTarget (graph_of d.observed.graph) q.x.bits q.through.bits q.y.bits q.given.bits) where
  -- the graph that was read, and the observed one
  abbrev g : MixedGraph
  g = graph_of d.read.graph

  abbrev seen : MixedGraph
  seen = graph_of d.observed.graph

  observed : IsObservedGraph d.read seen
  observed = (part_of d).graph

  nil : (a : Asked) → IsAskedFor seen q a → AreNilAsDrawn d a.question a
  nil a h = subst (λ (k : Question). AreNilAsDrawn d k a) (sym h.question) (record {
    indirect_nil = λ e. no_indirect_path_is_drawn g d.read.graph.valid (has d.read.latent.bits) seen observed q.x.bits q.through.bits q.y.bits q.given.bits
        target.asked (h.no_indirect e);
    direct_nil = λ e. no_direct_path_is_drawn g d.read.graph.valid (has d.read.latent.bits) seen observed q.x.bits q.through.bits q.y.bits q.given.bits
        target.asked (h.no_direct e);
  })

  differ : (a : Asked) → IsAskedFor seen q a → IsLostNested seen q.x.bits q.through.bits q.y.bits q.given.bits
      → DifferOnNestedAsDrawn g (has d.read.latent.bits) d.observed.graph.n a.question.x.bits a.question.through.bits a.question.y.bits a.question.given.bits
  differ a h lost =
      subst (λ (k : Question). DifferOnNestedAsDrawn g (has d.read.latent.bits) d.observed.graph.n k.x.bits k.through.bits k.y.bits k.given.bits)
      (sym h.question) (nested_difference_is_drawn g d.read.graph.valid (has d.read.latent.bits) seen observed q.x.bits q.through.bits q.y.bits q.given.bits
      target.x_low lost.models)

  another : (a : Asked) → IsAskedFor seen q a → (other : Option Interventional)
      → IsInterventional seen q.x.bits q.through.bits q.y.bits q.given.bits other → IsAnotherAsDrawn d a.question other
  another a h None r = tt
  another a h (Some i) r = subst (λ (k : Question). IsAnotherAsDrawn d k (Some i)) (sym h.question)
      (interventional_is_drawn g d.read.graph.valid (has d.read.latent.bits) seen observed q.x.bits q.through.bits q.y.bits q.given.bits
      (formula_view i.mediators) (formula_view i.outcome) r.mediators.effect r.outcome.effect)

  of_question : (certified : Bool) (a : Answer) → Decides certified seen q a → IsNaturalAsDrawn d a
  of_question true (Formula a f) h = absurd h
  of_question false (Formula a f) h = (
    nil a h.0,
    subst (λ (k : Question). EqualsNaturalAsDrawn g (has d.read.latent.bits) k.x.bits k.through.bits k.y.bits k.given.bits f.summed.bits
        (parts_view f.parts.items)) (sym h.0.question)
        (right_parts_are_drawn g d.read.graph.valid (has d.read.latent.bits) seen observed q.x.bits q.through.bits q.y.bits q.given.bits f.summed.bits
        (parts_view f.parts.items) h.1.equals),
  )
  of_question false (Certified a c) h = absurd h
  of_question true (Certified a c) h = (
    nil a h.0,
    subst (λ (k : Question). MakeUpNestedAsDrawn g (has d.read.latent.bits) seen k.x.bits k.through.bits k.y.bits k.given.bits
        (parts_of (part_certificate_view c))) (sym h.0.question)
        (subst (λ (k : PlainPartCertificate). MakeUpNestedAsDrawn g (has d.read.latent.bits) seen q.x.bits q.through.bits q.y.bits q.given.bits (parts_of k))
        (sym h.1.certificate.is)
        (accepted_nested_make_up g d.read.graph.valid (has d.read.latent.bits) seen observed q.x.bits q.through.bits q.y.bits q.given.bits target h.1.clear
        h.1.certificate.parts h.1.certificate.accepted)),
  )
  of_question certified (Excluded a hedge pair) h = (
    nil a h.0,
    subst (λ (k : Question). IsLostNestedAsDrawn g (has d.read.latent.bits) d.observed.graph.n k.x.bits k.through.bits k.y.bits k.given.bits)
        (sym h.0.question)
        (nested_lost_is_drawn g d.read.graph.valid (has d.read.latent.bits) seen observed q.x.bits q.through.bits q.y.bits q.given.bits target.asked
        (effect_lost d.read seen observed q.x.bits (union q.y.bits q.given.bits) pair h.1.right.counter)),
  )
  of_question certified (Witness a w other) h = (nil a h.0, differ a h.0 h.1.lost, another a h.0 other h.1.another)
  of_question certified (Split a s other) h = (nil a h.0, differ a h.0 h.1.lost, another a h.0 other h.1.another)

-- a right answer of `natural`
pub naturals : (certified : Bool) (x y : Names) (through given : List (List ℕ)) (d : Diagram) (a : Answer)
    → IsNaturalAnswer certified d x y through given (Ok a) → IsNaturalAsDrawn d a
naturals certified x y through given d a h =
    let sets = four_sets (natural_lists d x y through given) h.question h.named d.observed.graph.n d.observed.sized in
    of_question d h.question (target_of (graph_of d.observed.graph) h.question sets h.is.before) certified a h.is.decided

-- ---- a run

-- what is refused has status 3
pub natural_refused : (e : NaturalFault) → 1 < code_of (natural_refusal.outcome e)
natural_refused e = omega arith

pub natural : (r : Call) (uses : List Use) (code : ℕ) (o : Outcome) (text : Told) → code ≡ code_of o → code ≤ 1 → Appends r.before r.after text.text
    → ((w : Request commands) (bytes : List ℕ) → Defined commands w bytes o text → HoldsAnswer commands w bytes o text)
    → CallAnswer r Natural uses o text → WrittenFor natural_requests.IsRequest (λ q. q.file) (λ q bytes. IsNatural q bytes code) r uses
natural r uses code o text status small whole held = written_for r Natural uses o text (λ q. q.file) (λ q bytes. IsNatural q bytes code) (λ q h. h) (λ q. refl)
    (λ q. refl)
    (λ q is bytes a. let h = held (of Natural q) bytes a in
    answered natural_telling natural_refusal natural_refused q.form bytes code o text status small
    (λ d. IsNaturalAnswer (is_certified q.form.writing) d q.x q.y q.through q.given) IsNaturalAsDrawn
    (naturals (is_certified q.form.writing) q.x q.y q.through q.given) h.diagram h.holds h.answer) whole
