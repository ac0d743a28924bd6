-- What is told of an effect among the treated.
use Rattle.std.specs.Prelude.{ℕ, List}
use Rattle.json.specs.Json.{Json}
use Rattle.prob_expr.specs.Vocabulary.{formula_view}
use Rattle.certificate.specs.Vocabulary.{part_certificate_view}
use Rattle.certificate_json.specs.Vocabulary.{part_certificate_line}
use Rattle.replies.specs.declared.outcome.Outcome.{Outcome}
use Rattle.replies.specs.declared.outcome.Outcome.TheVariants.{Yes, No}
use Rattle.told.specs.declared.form.Writing.{Writing}
use Rattle.told.specs.Telling.{Telling}
use Rattle.treated_command.specs.declared.answer.Answer.{Answer}
use Rattle.treated_command.specs.declared.answer.Answer.TheVariants.{Formula, Certified, Excluded, Unfixed}
use Rattle.treated_command.specs.Sentences.{formula_text, excluded_text, unfixed_text}
use Rattle.treated_command.specs.Objects.{formula_object, certified_members, excluded_members, unfixed_members}

-- yes where there is a formula, or its certificate
abbrev pub treated_outcome : Answer → Outcome
treated_outcome (Formula a f) = Yes
treated_outcome (Certified a c) = Yes
treated_outcome (Excluded a c h pair) = No
treated_outcome (Unfixed a c) = No

-- the text
abbrev pub treated_text : Writing → List (List ℕ) → Answer → List ℕ
treated_text writing names (Formula a f) = formula_text writing names a (formula_view f)
treated_text writing names (Certified a c) = part_certificate_line names (part_certificate_view c)
treated_text writing names (Excluded a c h pair) = excluded_text names a c h pair
treated_text writing names (Unfixed a c) = unfixed_text names a c

-- the members of the object
abbrev pub treated_members : List (List ℕ) → Answer → List (List ℕ × Json)
treated_members names (Formula a f) = formula_object names a (formula_view f)
treated_members names (Certified a c) = certified_members names a
treated_members names (Excluded a c h pair) = excluded_members names a c h pair
treated_members names (Unfixed a c) = unfixed_members names a c

-- all of these
abbrev pub treated_telling : Telling Answer
treated_telling = record { outcome = treated_outcome; text = treated_text; members = λ w. treated_members }
