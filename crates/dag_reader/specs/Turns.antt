-- What the steps of the reader leave, and what they answer.
use Rattle.std.specs.Prelude.{◌≡◌, List, ℕ, Option, Some, None, Result, Ok, Err}
use Rattle.dag_reader.specs.Grammar.{Fault, Said, Turn, goes_on, ends}
use Rattle.dag_reader.specs.Reading.{Says}
use Rattle.dag_reader.specs.PlaceView.{place_view}
use Rattle.dag_reader.specs.FaultView.{fault_view}
use Rattle.dag_reader.specs.SaidView.{said_by}
use Rattle.dag_reader.specs.declared.grammar.Position.{Position as CodePlace}
use Rattle.dag_reader.specs.declared.said.Statements.{Statements}
use Rattle.dag_reader.specs.declared.faults.ReadFault.{ReadFault}
use Rattle.dag_reader.specs.declared.faults.ReadFault.TheVariants as errors

-- the fault is that of the answer; want of memory may come at any time
abbrev pub FailsWith : ReadFault → Result Said Fault → Type 0
FailsWith errors.Memory r = Unit {0}
FailsWith (errors.Fault f) r = r ≡ Err (fault_view f)

-- the statements or the fault are what the text says
abbrev pub ReadsStatements : List ℕ → Result Statements ReadFault → Type 0
ReadsStatements text (Ok s) = Says text (Ok (said_by s))
ReadsStatements text (Err errors.Memory) = Unit {0}
ReadsStatements text (Err (errors.Fault f)) = Says text (Err (fault_view f))

-- what a call that changes what was said leaves
abbrev pub Leaves : Result Said Fault → Said → Result (Unit {0}) ReadFault → Type 0
Leaves r new (Ok u) = r ≡ Ok new
Leaves r new (Err e) = FailsWith e r

-- the same of a whole step
abbrev pub TurnFails : ReadFault → Turn → Type 0
TurnFails errors.Memory turn = Unit {0}
TurnFails (errors.Fault f) turn = turn ≡ ends (Err (fault_view f))

-- what one token more gave
abbrev pub Turns : Turn → Said → Result (Option CodePlace) ReadFault → Type 0
Turns turn new (Ok None) = turn ≡ ends (Ok new)
Turns turn new (Ok (Some p)) = turn ≡ goes_on (place_view p) new
Turns turn new (Err e) = TurnFails e turn
