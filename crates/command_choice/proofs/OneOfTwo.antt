-- A command that is one of two lawful ones is lawful, where no words ask for something of both.
use Rattle.std.proofs.Common.{◌≡◌, ℕ, List, Some, ap}
use Rattle.command_words.specs.Vocabulary.{Text, Use}
use Rattle.diagram.specs.declared.diagram.Diagram.{Diagram}
use Rattle.diagram.proofs.OneDiagram.{AreSameDiagrams}
use Rattle.replies.specs.declared.outcome.Outcome.{Outcome}
use Rattle.replies.specs.Told.{Told}
use Rattle.replies.specs.OneOutcome.{OneOutcome}
use Rattle.replies.specs.Command.{AsksNothing}
use Rattle.replies.specs.Vocabulary.{CommandForm, IsAnswered, IsAnswerOn, IsLeft, Remainder}
use Rattle.replies.proofs.Commands.{IsLawful}
use Rattle.command_choice.specs.Choice.{NoWordsAskBoth, OneOf, first, one_of, second}

module _ (a b : CommandForm) where
  -- what is left of a request of one of them is left of it as a request of the choice
  pub left_of_first : (q : a.Request) (d : Diagram) (l : Remainder) → IsLeft a q d l → IsLeft (one_of a b) (first q) d l
  left_of_first q d l is = record { named = is.named; continues = is.continues; known = is.known; answers = is.answers }

  pub left_of_second : (q : b.Request) (d : Diagram) (l : Remainder) → IsLeft b q d l → IsLeft (one_of a b) (second q) d l
  left_of_second q d l is = record { named = is.named; continues = is.continues; known = is.known; answers = is.answers }

  -- words that ask neither for anything ask for nothing
  pub neither_asked : (uses : List Use) → AsksNothing a uses → AsksNothing b uses → AsksNothing (one_of a b) uses
  neither_asked uses not_first not_second = record { nothing = nothing }
    where
      nothing : (q : OneOf a.Request b.Request) → (one_of a b).asks uses q → ⊥
      nothing (first q) is = not_first.nothing q is
      nothing (second q) is = not_second.nothing q is

module _ (a b : CommandForm) (l : IsLawful a) (m : IsLawful b) (apart : NoWordsAskBoth a b) where
  abbrev both : CommandForm
  both = one_of a b

  one_request : (uses : List Use) (q r : OneOf a.Request b.Request) → both.asks uses q → both.asks uses r → r ≡ q
  one_request uses (first q) (first r) h k = ap first (l.one_request uses q r h k)
  one_request uses (first q) (second r) h k = absurd (apart uses q r h k)
  one_request uses (second q) (first r) h k = absurd (apart uses r q k h)
  one_request uses (second q) (second r) h k = ap second (m.one_request uses q r h k)

  words_answered : (q : OneOf a.Request b.Request) (o : Outcome) (told : Told) → both.by_words q o told → IsAnswered o
  words_answered (first q) = l.words_answered q
  words_answered (second q) = m.words_answered q

  diagram_answered : (q : OneOf a.Request b.Request) (d : Diagram) (o : Outcome) (told : Told) → both.by_diagram q d o told → IsAnswered o
  diagram_answered (first q) = l.diagram_answered q
  diagram_answered (second q) = m.diagram_answered q

  both_answered : (q : OneOf a.Request b.Request) (d : Diagram) (other : List ℕ) (o : Outcome) (told : Told) → both.by_both q d other o told → IsAnswered o
  both_answered (first q) = l.both_answered q
  both_answered (second q) = m.both_answered q

  no_file : (q : OneOf a.Request b.Request) (o : Outcome) (told : Told) → both.by_words q o told → (file : Text) → both.file q ≡ Some file → ⊥
  no_file (first q) = l.no_file q
  no_file (second q) = m.no_file q

  words_once : (q : OneOf a.Request b.Request) → OneOutcome (both.by_words q)
  words_once (first q) = l.words_once q
  words_once (second q) = m.words_once q

  diagram_once : (q : OneOf a.Request b.Request) (bytes : List ℕ) → OneOutcome (IsAnswerOn bytes (λ d. both.by_diagram q d))
  diagram_once (first q) = l.diagram_once q
  diagram_once (second q) = m.diagram_once q

  both_once : (q : OneOf a.Request b.Request) → both.is_fixed q → (bytes other : List ℕ) → OneOutcome (IsAnswerOn bytes (λ d. both.by_both q d other))
  both_once (first q) = l.both_once q
  both_once (second q) = m.both_once q

  file_alone : (q : OneOf a.Request b.Request) (name : Text) (d e : Diagram) → AreSameDiagrams d e → both.second q ≡ Some name → (o : Outcome) (told : Told)
      → both.by_diagram q d o told → both.continues q e → ⊥
  file_alone (first q) = l.file_alone q
  file_alone (second q) = m.file_alone q

  -- what holds of each command holds of the choice
  pub one_of_lawful : IsLawful (one_of a b)
  one_of_lawful = record {
    one_request = one_request;
    words_answered = words_answered;
    diagram_answered = diagram_answered;
    both_answered = both_answered;
    no_file = no_file;
    words_once = words_once;
    diagram_once = diagram_once;
    both_once = both_once;
    file_alone = file_alone;
  }
