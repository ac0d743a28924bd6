-- What is told of a nested effect.
use Rattle.std.specs.Prelude.{ℕ, List, ◌++◌, codes}
use Rattle.json.specs.Json.{Json}
use Rattle.certificate.specs.Vocabulary.{part_certificate_view}
use Rattle.certificate_json.specs.Vocabulary.{part_certificate_line}
use Rattle.replies.specs.declared.outcome.Outcome.{Outcome}
use Rattle.replies.specs.declared.outcome.Outcome.TheVariants.{Yes, No}
use Rattle.told.specs.declared.form.Writing.{Writing}
use Rattle.told.specs.Telling.{Telling}
use Rattle.natural_command.specs.declared.answer.Answer.{Answer}
use Rattle.natural_command.specs.declared.answer.Answer.TheVariants.{Formula, Certified, Excluded, Witness, Split}
use Rattle.natural_command.specs.Sentences.{formula_text, excluded_text, witness_text, split_text}
use Rattle.natural_command.specs.Another.{another_lines, another_members}
use Rattle.natural_command.specs.Objects.{asked_members, natural_members_of, excluded_members, witness_members, split_members}

-- yes where there is a formula, or its certificate
abbrev pub natural_outcome : Answer → Outcome
natural_outcome (Formula a f) = Yes
natural_outcome (Certified a c) = Yes
natural_outcome (Excluded a h pair) = No
natural_outcome (Witness a w other) = No
natural_outcome (Split a s other) = No

-- the text
abbrev pub natural_text : Writing → List (List ℕ) → Answer → List ℕ
natural_text writing names (Formula a f) = formula_text writing names a f
natural_text writing names (Certified a c) = part_certificate_line names (part_certificate_view c)
natural_text writing names (Excluded a h pair) = excluded_text names a h pair
natural_text writing names (Witness a w other) = witness_text names a w ++ another_lines names a other
natural_text writing names (Split a s other) = split_text names a s ++ another_lines names a other

-- the members of the object; no words ask for that of a certificate
abbrev pub natural_members : List (List ℕ) → Answer → List (List ℕ × Json)
natural_members names (Formula a f) = natural_members_of names a f
natural_members names (Certified a c) = asked_members (codes "certificate") names a
natural_members names (Excluded a h pair) = excluded_members names a h pair
natural_members names (Witness a w other) = witness_members names a w ++ another_members names a other
natural_members names (Split a s other) = split_members names a s ++ another_members names a other

-- all of these
abbrev pub natural_telling : Telling Answer
natural_telling = record { outcome = natural_outcome; text = natural_text; members = λ w. natural_members }
