-- A command whose right answers end alike is lawful, whatever is told of them.
use Rattle.std.proofs.Common.{◌≡◌, ℕ, List, Result, Ok, Err, sym, subst, ◌∙◌}
use Rattle.mixed_graph.specs.Vocabulary.{MixedGraph, graph_of}
use Rattle.command_words.specs.Vocabulary.{Text, Use}
use Rattle.targets.specs.declared.fault.TargetFault.{TargetFault}
use Rattle.diagram.specs.declared.diagram.Diagram.{Diagram}
use Rattle.diagram.proofs.OneDiagram.{AreSameDiagrams, same_drawing}
use Rattle.replies.specs.declared.outcome.Outcome.{Outcome}
use Rattle.replies.specs.Vocabulary.{IsAnswered}
use Rattle.replies.specs.Told.{Told}
use Rattle.replies.proofs.Commands.{IsLawful, lawful_on_file}
use Rattle.replies.proofs.OneOutcome.{one_on_diagram}
use Rattle.told.specs.declared.form.Form.{Form}
use Rattle.told.specs.Telling.{Telling, Refusal, Tells, outcome_in}
use Rattle.told.specs.Refusals.{target_refusal}
use Rattle.told.specs.Commands.{told_on_file}

module _ {A F : Type 0} (t : Telling A) (f : Refusal F) where
  -- a request ends as its answer does, or is refused
  pub told_answered : ((a : A) → IsAnswered (t.outcome a)) → ((e : F) → IsAnswered (f.outcome e)) → (right : Result A F → Type 0) (form : Form)
      (names : List (List ℕ)) (o : Outcome) (told : Told) → Tells t f right form names o told → IsAnswered o
  told_answered answered refused right form names o told h = subst IsAnswered (sym h.ends) (ends h.answer)
    where
      ends : (r : Result A F) → IsAnswered (outcome_in t f r)
      ends (Ok a) = answered a
      ends (Err e) = refused e

  -- right answers for lists in a graph end alike
  abbrev pub EndAlike : {L : Type 0} → (MixedGraph → L → Result A F → Type 0) → Type 0
  EndAlike {L} right = (q : MixedGraph) (l : L) (a b : Result A F) → right q l a → right q l b → outcome_in t f a ≡ outcome_in t f b

-- then the command is lawful
pub lawful_told : {A : Type 0} (t : Telling A) {Request L : Type 0} {asks : List Use → Request → Type 0} {form : Request → Form} {file : Request → Text}
    → ((uses : List Use) (q r : Request) → asks uses q → asks uses r → r ≡ q)
    → ((a : A) → IsAnswered (t.outcome a))
    → (lists : Request → Diagram → L) → ((q : Request) (d e : Diagram) → AreSameDiagrams d e → lists q e ≡ lists q d)
    → (right : Request → MixedGraph → L → Result A TargetFault → Type 0) → ((q : Request) → EndAlike t target_refusal (right q))
    → IsLawful (told_on_file Request asks form file t (λ q d. right q (graph_of d.observed.graph) (lists q d)))
lawful_told {A} t {Request} {L} {asks} {form} {file} one answered lists same right alike =
    lawful_on_file one (λ q d o told h. told_answered t target_refusal answered (λ e. tt) (right q (graph_of d.observed.graph) (lists q d)) (form q)
    d.observed.names o told h)
    (λ q bytes. one_on_diagram bytes (λ d. Tells t target_refusal (right q (graph_of d.observed.graph) (lists q d)) (form q) d.observed.names) (once q))
  where
    once : (q : Request) (d e : Diagram) → AreSameDiagrams d e → (o p : Outcome) (told other : Told)
        → Tells t target_refusal (right q (graph_of d.observed.graph) (lists q d)) (form q) d.observed.names o told
        → Tells t target_refusal (right q (graph_of e.observed.graph) (lists q e)) (form q) e.observed.names p other → o ≡ p
    once q d e s o p told other a b = a.ends ∙ alike q (graph_of d.observed.graph) (lists q d) a.answer b.answer a.right
        (subst (λ (l : L). right q (graph_of d.observed.graph) l b.answer) (same q d e s)
        (subst (λ (g : MixedGraph). right q g (lists q e) b.answer) (sym (same_drawing d e s)) b.right))
        ∙ sym b.ends
