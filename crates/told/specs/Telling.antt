-- Answers as values: what is told of an answer is a function of it, of its form and of the names of the vertices.
use Rattle.std.specs.Prelude.{ℕ, ◌≡◌, Bool, false, List, Result, Ok, Err}
use Rattle.json.specs.Json.{Json}
use Rattle.answer_json.specs.Vocabulary.{object_of, json_line}
use Rattle.replies.specs.declared.outcome.Outcome.{Outcome}
use Rattle.replies.specs.Vocabulary.{text_in, answer_of}
use Rattle.replies.specs.Told.{Told}
use Rattle.told.specs.declared.form.Form.{Form}
use Rattle.told.specs.declared.form.Writing.{Writing}

-- how an answer ends, its text, and the members of its object
pub record Telling (A : Type 0) : Type 0 where
  pub outcome : A → Outcome
  pub text : Writing → List (List ℕ) → A → List ℕ
  pub members : Writing → List (List ℕ) → A → List (List ℕ × Json)

-- how a fault ends, and what is told of it; and whether it is want of memory, which the run alone tells
pub record Refusal (F : Type 0) : Type 0 where
  pub outcome : F → Outcome
  pub told : F → Told
  pub is_memory : F → Bool

-- how a request ends: with its answer, or with the fault for which there is none
abbrev pub outcome_in : {A F : Type 0} → Telling A → Refusal F → Result A F → Outcome
outcome_in t f (Ok a) = t.outcome a
outcome_in t f (Err fault) = f.outcome fault

-- what is told of it
abbrev pub told_in : {A F : Type 0} → Telling A → Refusal F → Form → List (List ℕ) → Result A F → Told
told_in t f form names (Ok a) =
    answer_of (text_in form.format (t.text form.writing names a) (json_line (object_of (t.members form.writing names a))))
told_in t f form names (Err fault) = f.told fault

-- whether memory was refused
abbrev pub is_wanting : {A F : Type 0} → Refusal F → Result A F → Bool
is_wanting f (Ok a) = false
is_wanting f (Err fault) = f.is_memory fault

-- an answer that is right, and is told so
pub record Tells {A F : Type 0} (t : Telling A) (f : Refusal F) (is_right : Result A F → Type 0) (form : Form) (names : List (List ℕ))
    (o : Outcome) (told : Told) : Type 0 where
  pub answer : Result A F
  pub right : is_right answer
  pub ends : o ≡ outcome_in t f answer
  pub prints : told ≡ told_in t f form names answer
