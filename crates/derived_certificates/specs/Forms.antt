-- The form of an answer that may be a certificate, by its three flags.
use Rattle.std.specs.Prelude.{Bool, true, false, Option, Some, None}
use Rattle.replies.specs.Vocabulary.{format_of}
use Rattle.told.specs.declared.form.Form.{Form}
use Rattle.told.specs.declared.form.Writing.TheVariants.{Certificate}
use Rattle.told.specs.Vocabulary.{form_for}

-- by the flags for a certificate, for LaTeX and for JSON, of which one stands at most
abbrev pub certified_form : (certificate latex json : Bool) → Option Form
certified_form false latex json = form_for latex json
certified_form true false false = Some (record { format = format_of false; writing = Certificate })
certified_form true latex json = None
