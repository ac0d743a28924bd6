use Rattle.std.proofs.Common.{◌≡◌, ◌<◌, ℕ, List, Option, Result, Ok, Err, IfOk, length}
use Rattle.diagram.specs.declared.diagram.Diagram.{Diagram}
use Rattle.targets.specs.declared.query.Sets.{Sets}
use Rattle.replies.specs.declared.outcome.Outcome.TheVariants.{Second}
use Rattle.replies.specs.declared.outcome.Reply.{Reply}
use Rattle.replies.specs.Vocabulary.{told_of}
use Rattle.told.specs.declared.form.Form.{Form}
use Rattle.told.specs.Vocabulary.{Tells}
use Rattle.equivalent_command.specs.Refusals.{second_size_told}
use Rattle.equivalent_command.specs.Right.{IsForSecond}
use Rattle.equivalent_command.specs.SecondFaults.{second_refusal}
use Rattle.equivalent_command.specs.Telling.{equivalent_telling}
use Rattle.equivalent_command.specs.declared.second.SecondFault.TheVariants.{TooLong}
use Rattle.equivalent_command.proofs.reply.long_second_graph.Goals as goal

long_told : {E : Type 0} (r : Result Reply E) → IfOk r (λ (p : Reply). p.outcome ≡ Second) → IfOk r (λ (p : Reply). told_of p ≡ second_size_told)
    → IfOk r (λ (p : Reply). (form : Form) (first : Diagram) (s : Option Sets) (second : List ℕ) → 1048576 < length second
    → Tells equivalent_telling second_refusal (IsForSecond first.observed s second) form first.observed.names p.outcome (told_of p))
long_told (Err e) outcome told = tt
long_told (Ok p) outcome told = λ form first s second long. record { answer = Err TooLong; right = long; ends = outcome; prints = told }

pub returns : goal.returns
returns c = long_told c.refuse.result c.refuse.ensures.outcome c.refuse.ensures.told
