-- What a command is.
use Rattle.std.specs.Prelude.{ℕ, ◌≡◌, List, Option, Some, None}
use Rattle.command_words.specs.Vocabulary.{Text, Use}
use Rattle.diagram.specs.declared.diagram.Diagram.{Diagram}
use Rattle.replies.specs.declared.format.Format.{Format}
use Rattle.replies.specs.declared.outcome.Outcome.{Outcome}
use Rattle.replies.specs.Told.{Told}

-- A command: what it is asked for, and when uses of its words ask for that; its inputs, where it has them; the format of its answers;
-- its answers, by the words alone, on the diagram of the file where that alone decides, and on the diagram and the bytes of the second input, where the
-- diagram is accepted for it; and for which requests the latter have one outcome, whatever the program finds on the diagram.
pub record CommandForm : Type 1 where
  pub Request : Type 0
  pub asks : List Use → Request → Type 0
  pub file : Request → Option Text
  pub second : Request → Option Text
  pub format : Request → Format
  pub by_words : Request → Outcome → Told → Type 0
  pub by_diagram : Request → Diagram → Outcome → Told → Type 0
  pub continues : Request → Diagram → Type 0
  pub by_both : Request → Diagram → List ℕ → Outcome → Told → Type 0
  pub is_fixed : Request → Type 0

-- a command without an input
abbrev pub on_words : (Request : Type 0) → (List Use → Request → Type 0) → (Request → Format) → (Request → Outcome → Told → Type 0) → CommandForm
on_words Request asks format answer = record {
  Request = Request;
  asks = asks;
  file = λ q. None;
  second = λ q. None;
  format = format;
  by_words = answer;
  by_diagram = λ q d o told. ⊥;
  continues = λ q d. ⊥;
  by_both = λ q d other o told. ⊥;
  is_fixed = λ q. Unit {0};
}

-- a command on the diagram of a file
abbrev pub on_file : (Request : Type 0) → (List Use → Request → Type 0) → (Request → Format) → (Request → Text)
    → (Request → Diagram → Outcome → Told → Type 0) → CommandForm
on_file Request asks format file answer = record {
  Request = Request;
  asks = asks;
  file = λ q. Some (file q);
  second = λ q. None;
  format = format;
  by_words = λ q o told. ⊥;
  by_diagram = answer;
  continues = λ q d. ⊥;
  by_both = λ q d other o told. ⊥;
  is_fixed = λ q. Unit {0};
}

-- a command on the diagram of a file and on a second input, some of whose requests are fixed
abbrev pub on_two_inputs_where : (Request : Type 0) → (List Use → Request → Type 0) → (Request → Format) → (Request → Text) → (Request → Option Text)
    → (Request → Diagram → Outcome → Told → Type 0)
    → (Request → Diagram → Type 0) → (Request → Diagram → List ℕ → Outcome → Told → Type 0) → (Request → Type 0) → CommandForm
on_two_inputs_where Request asks format file second alone continues answer is_fixed = record {
  Request = Request;
  asks = asks;
  file = λ q. Some (file q);
  second = second;
  format = format;
  by_words = λ q o told. ⊥;
  by_diagram = alone;
  continues = continues;
  by_both = answer;
  is_fixed = is_fixed;
}

-- and one all of whose requests are
abbrev pub on_two_inputs : (Request : Type 0) → (List Use → Request → Type 0) → (Request → Format) → (Request → Text) → (Request → Option Text)
    → (Request → Diagram → Outcome → Told → Type 0)
    → (Request → Diagram → Type 0) → (Request → Diagram → List ℕ → Outcome → Told → Type 0) → CommandForm
on_two_inputs Request asks format file second alone continues answer =
    on_two_inputs_where Request asks format file second alone continues answer (λ q. Unit {0})

-- the uses ask a command for nothing
pub record AsksNothing (c : CommandForm) (uses : List Use) : Type 0 where
  pub nothing : (q : c.Request) → c.asks uses q → ⊥

-- What is left to answer once a diagram was accepted: the name of the second input, the most bytes that it may have, what is known of what was kept of
-- the diagram, and the answer on the bytes.
pub record Remainder : Type 1 where
  pub second : Text
  pub limit : ℕ
  pub known : Type 0
  pub answer : List ℕ → Outcome → Told → Type 0

-- this is left of a request on a diagram: the request names the second input, the diagram is accepted, and each answer is the command's
pub record IsLeft (c : CommandForm) (q : c.Request) (d : Diagram) (l : Remainder) : Type 0 where
  pub named : c.second q ≡ Some l.second
  pub continues : c.continues q d
  pub known : l.known
  pub answers : (other : List ℕ) (o : Outcome) (told : Told) → l.answer other o told → c.by_both q d other o told
