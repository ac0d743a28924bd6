-- What holds of each command: its words ask for one request, and its answers have one outcome, which is one that commands answer.
use Rattle.std.proofs.Common.{◌≡◌, ℕ, List, Option, Some}
use Rattle.std.proofs.lemmas.Option.{none-some}
use Rattle.command_words.specs.Vocabulary.{Text, Use}
use Rattle.diagram.specs.declared.diagram.Diagram.{Diagram}
use Rattle.diagram.proofs.OneDiagram.{AreSameDiagrams}
use Rattle.replies.specs.declared.format.Format.{Format}
use Rattle.replies.specs.declared.outcome.Outcome.{Outcome}
use Rattle.replies.specs.Told.{Told}
use Rattle.replies.specs.Outcomes.{IsAnswered}
use Rattle.replies.specs.OneOutcome.{OneOutcome, IsAnswerOn}
use Rattle.replies.specs.Command.{CommandForm, on_words, on_file, on_two_inputs, on_two_inputs_where}

-- `file_alone`: a request that the file alone answers reads no second input
pub record IsLawful (c : CommandForm) : Type 0 where
  pub one_request : (uses : List Use) (q r : c.Request) → c.asks uses q → c.asks uses r → r ≡ q
  pub words_answered : (q : c.Request) (o : Outcome) (told : Told) → c.by_words q o told → IsAnswered o
  pub diagram_answered : (q : c.Request) (d : Diagram) (o : Outcome) (told : Told) → c.by_diagram q d o told → IsAnswered o
  pub both_answered : (q : c.Request) (d : Diagram) (other : List ℕ) (o : Outcome) (told : Told) → c.by_both q d other o told → IsAnswered o
  pub no_file : (q : c.Request) (o : Outcome) (told : Told) → c.by_words q o told → (file : Text) → c.file q ≡ Some file → ⊥
  pub words_once : (q : c.Request) → OneOutcome (c.by_words q)
  pub diagram_once : (q : c.Request) (bytes : List ℕ) → OneOutcome (IsAnswerOn bytes (λ d. c.by_diagram q d))
  pub both_once : (q : c.Request) → c.is_fixed q → (bytes other : List ℕ) → OneOutcome (IsAnswerOn bytes (λ d. c.by_both q d other))
  pub file_alone : (q : c.Request) (second : Text) (d e : Diagram) → AreSameDiagrams d e → c.second q ≡ Some second → (o : Outcome) (told : Told)
      → c.by_diagram q d o told → c.continues q e → ⊥

module _ {Request : Type 0} {asks : List Use → Request → Type 0} {format : Request → Format}
    (one : (uses : List Use) (q r : Request) → asks uses q → asks uses r → r ≡ q) where
  -- a command without an input is lawful if its answers have one outcome, which is one that commands answer
  pub lawful_on_words : {answer : Request → Outcome → Told → Type 0} → ((q : Request) (o : Outcome) (told : Told) → answer q o told → IsAnswered o)
      → ((q : Request) → OneOutcome (answer q))
      → IsLawful (on_words Request asks format answer)
  lawful_on_words answered once = record {
    one_request = one;
    words_answered = answered;
    diagram_answered = λ q d o told a. absurd a;
    both_answered = λ q d other o told a. absurd a;
    no_file = λ q o told a file names. none-some file names;
    words_once = once;
    diagram_once = λ q bytes o p told other a b. absurd a.given;
    both_once = λ q fixed bytes other o p told line a b. absurd a.given;
    file_alone = λ q second d e s names o told a n. n;
  }

  -- so is a command on the diagram of a file, if that is true for the bytes of each file
  pub lawful_on_file : {file : Request → Text} {answer : Request → Diagram → Outcome → Told → Type 0}
      → ((q : Request) (d : Diagram) (o : Outcome) (told : Told) → answer q d o told → IsAnswered o)
      → ((q : Request) (bytes : List ℕ) → OneOutcome (IsAnswerOn bytes (λ d. answer q d))) → IsLawful (on_file Request asks format file answer)
  lawful_on_file answered once = record {
    one_request = one;
    words_answered = λ q o told a. absurd a;
    diagram_answered = answered;
    both_answered = λ q d other o told a. absurd a;
    no_file = λ q o told a file names. a;
    words_once = λ q o p told other a b. absurd a;
    diagram_once = once;
    both_once = λ q fixed bytes other o p told line a b. absurd a.given;
    file_alone = λ q second d e s names o told a n. n;
  }

  -- what is answered on the diagram alone, and on both inputs
  pub lawful_on_two_inputs_where : {file : Request → Text} {second : Request → Option Text} {alone : Request → Diagram → Outcome → Told → Type 0}
      {continues : Request → Diagram → Type 0}
      {answer : Request → Diagram → List ℕ → Outcome → Told → Type 0} {is_fixed : Request → Type 0}
      → ((q : Request) (d : Diagram) (o : Outcome) (told : Told) → alone q d o told → IsAnswered o)
      → ((q : Request) (d : Diagram) (other : List ℕ) (o : Outcome) (told : Told) → answer q d other o told → IsAnswered o)
      → ((q : Request) (bytes : List ℕ) → OneOutcome (IsAnswerOn bytes (λ d. alone q d)))
      → ((q : Request) → is_fixed q → (bytes other : List ℕ) → OneOutcome (IsAnswerOn bytes (λ d. answer q d other)))
      → ((q : Request) (name : Text) (d e : Diagram) → AreSameDiagrams d e → second q ≡ Some name → (o : Outcome) (told : Told) → alone q d o told
      → continues q e → ⊥)
      → IsLawful (on_two_inputs_where Request asks format file second alone continues answer is_fixed)
  lawful_on_two_inputs_where alone_answered answered alone_once once file_alone = record {
    one_request = one;
    words_answered = λ q o told a. absurd a;
    diagram_answered = alone_answered;
    both_answered = answered;
    no_file = λ q o told a file names. a;
    words_once = λ q o p told other a b. absurd a;
    diagram_once = alone_once;
    both_once = once;
    file_alone = file_alone;
  }

  pub lawful_on_two_inputs : {file : Request → Text} {second : Request → Option Text} {alone : Request → Diagram → Outcome → Told → Type 0}
      {continues : Request → Diagram → Type 0}
      {answer : Request → Diagram → List ℕ → Outcome → Told → Type 0}
      → ((q : Request) (d : Diagram) (o : Outcome) (told : Told) → alone q d o told → IsAnswered o)
      → ((q : Request) (d : Diagram) (other : List ℕ) (o : Outcome) (told : Told) → answer q d other o told → IsAnswered o)
      → ((q : Request) (bytes : List ℕ) → OneOutcome (IsAnswerOn bytes (λ d. alone q d)))
      → ((q : Request) (bytes other : List ℕ) → OneOutcome (IsAnswerOn bytes (λ d. answer q d other)))
      → ((q : Request) (name : Text) (d e : Diagram) → AreSameDiagrams d e → second q ≡ Some name → (o : Outcome) (told : Told) → alone q d o told
      → continues q e → ⊥)
      → IsLawful (on_two_inputs Request asks format file second alone continues answer)
  lawful_on_two_inputs alone_answered answered alone_once once file_alone =
      lawful_on_two_inputs_where alone_answered answered alone_once (λ q fixed. once q) file_alone
