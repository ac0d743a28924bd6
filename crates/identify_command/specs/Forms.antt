-- The form of an answer, by its four flags.
use Rattle.std.specs.Prelude.{Bool, true, false, Option, Some, None}
use Rattle.told.specs.declared.form.Form.{Form as ToldForm}
use Rattle.told.specs.declared.form.Writing.TheVariants.{Plain, Latex, Certificate}
use Rattle.identify_command.specs.declared.form.Form.{Form}
use Rattle.replies.specs.declared.format.Format.{Format}
use Rattle.replies.specs.Vocabulary.{format_of}

-- the form, by the flags for a certificate and for LaTeX, of which one stands at most, and that for LaTeX not beside that for JSON
abbrev pub form_for : (certificate latex is_short json : Bool) → Option Form
form_for false false is_short json = Some (record { writing = Plain; short = is_short; format = format_of json })
form_for true false is_short json = Some (record { writing = Certificate; short = is_short; format = format_of json })
form_for false true is_short false = Some (record { writing = Latex; short = is_short; format = format_of false })
form_for certificate true is_short json = None

-- the form in which an answer is told
abbrev pub told_form : Form → ToldForm
told_form f = record { format = f.format; writing = f.writing }

-- the form in which an answer in that format is plain, with the formula of the procedure
abbrev pub plain_form : Format → Form
plain_form format = record { writing = Plain; short = false; format = format }
