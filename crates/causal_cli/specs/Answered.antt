-- A right answer that was told: what a run says of its answer as a value, apart from how that is written.
use Rattle.std.specs.Prelude.{ℕ, ◌≡◌, List, Result, Ok}
use Rattle.diagram.specs.declared.diagram.Diagram.{Diagram}
use Rattle.answer_json.specs.Vocabulary.{object_of, json_line}
use Rattle.replies.specs.Told.{Told}
use Rattle.replies.specs.Vocabulary.{text_in, answer_of, code_of, HoldsDiagram}
use Rattle.told.specs.declared.form.Form.{Form}
use Rattle.told.specs.Telling.{Telling}

-- what is told of an answer in a form: its text, or its object as a line
abbrev pub told_of_answer : {A : Type 0} → Telling A → Form → List (List ℕ) → A → Told
told_of_answer t form names a =
    answer_of (text_in form.format (t.text form.writing names a) (json_line (object_of (t.members form.writing names a))))

-- The bytes hold the graph of a diagram; this answer is right on it, and this is so of both, as drawn; the status is that of the answer, and what is told is
-- what is told of it in the form that is asked for.
pub record IsAnswered {A F : Type 0} (t : Telling A) (is_right : Diagram → Result A F → Type 0) (is_so : Diagram → A → Type 0) (form : Form)
    (bytes : List ℕ) (code : ℕ) (told : Told) : Type 0 where
  pub diagram : Diagram
  pub holds : HoldsDiagram bytes diagram
  pub answer : A
  pub right : is_right diagram (Ok answer)
  pub as_drawn : is_so diagram answer
  pub status : code ≡ code_of (t.outcome answer)
  pub prints : told ≡ told_of_answer t form diagram.observed.names answer

-- the same of an answer on two inputs, where this was kept of the diagram for the second
pub record IsAnsweredOnBoth {A F K : Type 0} (t : Telling A) (keeps : Diagram → K → Type 0)
    (is_right : Diagram → K → List ℕ → Result A F → Type 0) (is_so : Diagram → K → A → Type 0) (form : Form)
    (bytes other : List ℕ) (code : ℕ) (told : Told) : Type 0 where
  pub diagram : Diagram
  pub holds : HoldsDiagram bytes diagram
  pub kept : K
  pub keeps_it : keeps diagram kept
  pub answer : A
  pub right : is_right diagram kept other (Ok answer)
  pub as_drawn : is_so diagram kept answer
  pub status : code ≡ code_of (t.outcome answer)
  pub prints : told ≡ told_of_answer t form diagram.observed.names answer
