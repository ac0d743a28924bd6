-- What the first part of the command gives.
use Rattle.std.specs.Prelude.{Result, Ok, Err}
use Rattle.targets.specs.declared.fault.TargetFault.{TargetFault}
use Rattle.targets.specs.Vocabulary.{OrMemory}
use Rattle.diagram.specs.declared.diagram.Diagram.{Diagram}
use Rattle.diagram.specs.Vocabulary.{Names}
use Rattle.evaluate_command.specs.Effects.{effect_in, Identifies}
use Rattle.evaluate_command.specs.First.{IsUnmet, IsFirstFault}
use Rattle.evaluate_command.specs.Ways.{Way}
use Rattle.evaluate_command.specs.declared.answer.Answer.{Answer}
use Rattle.evaluate_command.specs.declared.first.First.{First}
use Rattle.evaluate_command.specs.declared.first.First.TheVariants.{Found, Answered}

-- the answer is right; want of memory may stand in its place
abbrev pub IsAnswered : Way → Diagram → (x y : Names) → Result Answer TargetFault → Type 0
IsAnswered way d x y (Ok a) = IsUnmet way d x y a
IsAnswered way d x y (Err fault) = OrMemory (IsFirstFault way d x y) fault

-- the lists name an effect that has a formula, or the answer is given
abbrev pub IsFirst : Way → Diagram → (x y : Names) → First → Type 0
IsFirst way d x y (Found i) = Identifies way d x y (effect_in d.observed i)
IsFirst way d x y (Answered a) = IsAnswered way d x y a
