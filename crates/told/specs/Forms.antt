-- In which form an answer is told.
use Rattle.std.specs.Prelude.{Bool, true, false, Option, Some, None}
use Rattle.answer_text.specs.declared.signs.Notation.{Notation}
use Rattle.answer_text.specs.declared.signs.Notation.TheVariants as notations
use Rattle.replies.specs.declared.format.Format.{Format}
use Rattle.replies.specs.Vocabulary.{format_of}
use Rattle.told.specs.declared.form.Form.{Form}
use Rattle.told.specs.declared.form.Writing.{Writing}
use Rattle.told.specs.declared.form.Writing.TheVariants.{Plain, Latex, Certificate}

-- in a format, as plain text
abbrev pub plain_form : Format → Form
plain_form format = record { format = format; writing = Plain }

-- by the flags for LaTeX and for JSON, which don't stand beside each other: an object has its formulas as LaTeX too
abbrev pub form_for : (latex json : Bool) → Option Form
form_for false json = Some (plain_form (format_of json))
form_for true false = Some (record { format = format_of false; writing = Latex })
form_for true true = None

-- the notation of formulas
abbrev pub notation_of : Writing → Notation
notation_of Latex = notations.Latex
notation_of writing = notations.Plain

-- whether the certificate is asked for
abbrev pub is_certified : Writing → Bool
is_certified Certificate = true
is_certified writing = false
