-- How a run ends, as an exit status.
use Rattle.std.specs.Prelude.{ℕ}
use Rattle.replies.specs.declared.outcome.Outcome.{Outcome}
use Rattle.replies.specs.declared.outcome.Outcome.TheVariants.{Yes, No, Words, Graph, Second, Evaluation, Read, Write, Memory}

-- the status of an outcome
abbrev pub code_of : Outcome → ℕ
code_of Yes = 0
code_of No = 1
code_of Words = 2
code_of Graph = 3
code_of Second = 4
code_of Evaluation = 5
code_of Read = 6
code_of Write = 7
code_of Memory = 8

-- an outcome that a command answers: the others are those of a run alone
abbrev pub IsAnswered : Outcome → Type 0
IsAnswered Words = ⊥
IsAnswered Read = ⊥
IsAnswered Write = ⊥
IsAnswered Memory = ⊥
IsAnswered o = Unit {0}
