-- The form of an answer, by its three flags.
use Rattle.std.specs.Prelude.{Bool, true, false, Option, Some, None}
use Rattle.replies.specs.Vocabulary.{format_of}
use Rattle.told.specs.declared.form.Form.{Form as ToldForm}
use Rattle.told.specs.declared.form.Writing.{Writing as ToldWriting}
use Rattle.told.specs.declared.form.Writing.TheVariants as told
use Rattle.surrogate_command.specs.declared.form.Form.{Form}
use Rattle.surrogate_command.specs.declared.form.Writing.{Writing}
use Rattle.surrogate_command.specs.declared.form.Writing.TheVariants.{Plain, Models, Certificate}

-- the form, by the flags for the models and for a certificate, of which one stands at most
abbrev pub form_for : (models certificate json : Bool) → Option Form
form_for false false json = Some (record { writing = Plain; format = format_of json })
form_for true false json = Some (record { writing = Models; format = format_of json })
form_for false true json = Some (record { writing = Certificate; format = format_of json })
form_for true true json = None

-- whether the common hedge of a stop is asked for
abbrev pub wants_common : Writing → Bool
wants_common Plain = false
wants_common Models = true
wants_common Certificate = true

-- how what is answered is told
abbrev pub told_writing : Writing → ToldWriting
told_writing Plain = told.Plain
told_writing Models = told.Plain
told_writing Certificate = told.Certificate

-- in which form
abbrev pub told_form : Form → ToldForm
told_form f = record { format = f.format; writing = told_writing f.writing }
