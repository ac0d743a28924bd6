-- What `out` receives of what is told.
use Rattle.std.specs.Prelude.{ℕ, List, []}
use Rattle.replies.specs.declared.format.Format.{Format}
use Rattle.replies.specs.declared.outcome.Outcome.{Outcome}
use Rattle.replies.specs.declared.outcome.Outcome.TheVariants.{Yes, No, Graph, Second, Evaluation}
use Rattle.replies.specs.declared.format.Format.TheVariants as formats
use Rattle.replies.specs.Told.{Told}

-- the object of a refusal, where JSON is asked for
abbrev pub object_in : Format → Told → List ℕ
object_in formats.Text told = []
object_in formats.Json told = told.object

-- the text of an answer, or that object; nothing else is written
abbrev pub shown : Format → Outcome → Told → List ℕ
shown format Yes told = told.text
shown format No told = told.text
shown format Graph told = object_in format told
shown format Second told = object_in format told
shown format Evaluation told = object_in format told
shown format o told = []
