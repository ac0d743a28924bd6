-- A command on two inputs whose right answers end alike is lawful, whatever is told of them.
use Rattle.std.proofs.Common.{◌≡◌, ℕ, List, Option, Some, Result, sym, ◌∙◌}
use Rattle.command_words.specs.Vocabulary.{Text, Use}
use Rattle.targets.specs.declared.fault.TargetFault.{TargetFault}
use Rattle.diagram.specs.declared.diagram.Diagram.{Diagram}
use Rattle.diagram.proofs.OneDiagram.{AreSameDiagrams}
use Rattle.replies.specs.Vocabulary.{IsAnswered, IsAnswerOn}
use Rattle.replies.specs.OneOutcome.{OneOutcome}
use Rattle.replies.proofs.Commands.{IsLawful, lawful_on_two_inputs}
use Rattle.replies.proofs.OneGraph.{one_holding}
use Rattle.told.specs.declared.form.Form.{Form}
use Rattle.told.specs.Telling.{Telling, Refusal, Tells, outcome_in}
use Rattle.told.specs.Refusals.{target_refusal}
use Rattle.told.specs.TwoInputs.{told_on_two_inputs}
use Rattle.told.proofs.ToldOnce.{told_answered}

pub lawful_told_on_both : {A F K : Type 0} (t : Telling A) (f : Refusal F) {Request : Type 0} {asks : List Use → Request → Type 0} {form : Request → Form}
    {file : Request → Text} {second : Request → Option Text}
    → ((uses : List Use) (q r : Request) → asks uses q → asks uses r → r ≡ q)
    → ((a : A) → IsAnswered (t.outcome a)) → ((e : F) → IsAnswered (f.outcome e))
    → (alone : Request → Diagram → Result A TargetFault → Type 0) (keeps : Request → Diagram → K → Type 0)
    (right : Request → Diagram → K → List ℕ → Result A F → Type 0)
    → ((q : Request) (d e : Diagram) → AreSameDiagrams d e → AreSameDiagrams e d → (a b : Result A TargetFault) → alone q d a → alone q e b
    → outcome_in t target_refusal a ≡ outcome_in t target_refusal b)
    → ((q : Request) (d e : Diagram) → AreSameDiagrams d e → AreSameDiagrams e d → (k l : K) → keeps q d k → keeps q e l → (other : List ℕ)
    → (a b : Result A F) → right q d k other a → right q e l other b → outcome_in t f a ≡ outcome_in t f b)
    → ((q : Request) (name : Text) (d e : Diagram) → AreSameDiagrams d e → second q ≡ Some name → (a : Result A TargetFault) (k : K) → alone q d a
    → keeps q e k → ⊥)
    → IsLawful (told_on_two_inputs Request asks form file second t f alone keeps right)
lawful_told_on_both {A} {F} {K} t f {Request} {asks} {form} {file} {second} one answered refused alone keeps right alone_alike alike apart =
    lawful_on_two_inputs one
    (λ q d o told h. told_answered t target_refusal answered (λ e. tt) (alone q d) (form q) d.observed.names o told h)
    (λ q d other o told h. told_answered t f answered refused (right q d h.0 other) (form q) d.observed.names o told h.2)
    alone_once both_once
    (λ q name d e s named o told h k. apart q name d e s named h.answer k.0 h.right k.1)
  where
    alone_once : (q : Request) (bytes : List ℕ) → OneOutcome (IsAnswerOn bytes (λ d. Tells t target_refusal (alone q d) (form q) d.observed.names))
    alone_once q bytes o p told line x y =
        let a = x.given in let b = y.given in
        a.ends ∙ alone_alike q x.diagram y.diagram (one_holding bytes x.diagram y.diagram x.holds y.holds)
        (one_holding bytes y.diagram x.diagram y.holds x.holds) a.answer b.answer a.right b.right ∙ sym b.ends

    both_once : (q : Request) (bytes other : List ℕ)
        → OneOutcome (IsAnswerOn bytes (λ d o told. (k : K) × keeps q d k × Tells t f (right q d k other) (form q) d.observed.names o told))
    both_once q bytes other o p told line x y =
        let a = x.given.2 in let b = y.given.2 in
        a.ends ∙ alike q x.diagram y.diagram (one_holding bytes x.diagram y.diagram x.holds y.holds)
        (one_holding bytes y.diagram x.diagram y.holds x.holds) x.given.0 y.given.0 x.given.1 y.given.1 other a.answer b.answer a.right b.right ∙ sym b.ends
