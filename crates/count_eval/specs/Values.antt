-- What `value` answers, which takes memory.
use Rattle.std.specs.Prelude.{◌≡◌, ◌⊎◌, Result, Err}
use Rattle.quantity.specs.Kinds.{Pair}
use Rattle.count_rows.specs.Vocabulary.{Table}
use Rattle.count_eval.specs.declared.failure.EvalFault.{EvalFault}
use Rattle.count_eval.specs.declared.failure.EvalFault.TheVariants.{NoMemory}
use Rattle.count_eval.specs.Answers.{Answers}
use Rattle.count_eval.specs.Stops.{Stop}

-- want of memory, or else the value or the fault of the stop
abbrev pub AnswersIfRoom : {Q : Type 0} → (Q → Pair) → Table → Result Pair Stop → Result Q EvalFault → Type 0
AnswersIfRoom numbers t o r = (r ≡ Err NoMemory) ⊎ Answers numbers t o r
