-- What is answered over the bytes of counts, whatever it is.
use Rattle.std.specs.Prelude.{ℕ, ◌≡◌, ◌≢◌, ◌<◌, ◌≤◌, List, length, Option, Some, Result, Ok, Err}
use Rattle.count_rows.specs.declared.fault.CountFault.{CountFault}
use Rattle.count_rows.specs.declared.fault.CountFault.TheVariants as counts
use Rattle.count_rows.specs.Vocabulary.{Field, Table}
use Rattle.count_table.specs.Vocabulary.{text_fault, AreCounts}
use Rattle.count_eval.specs.declared.failure.EvalFault.{EvalFault}
use Rattle.count_answers.specs.Vocabulary.{HoldsCounts}
use Rattle.evaluate_command.specs.declared.faults.ValuesFault.{ValuesFault}
use Rattle.evaluate_command.specs.declared.faults.ValuesFault.TheVariants.{TooLong, Counts, NoValue, NoMemory}

-- the answer is right over the table of the bytes, whose columns of these names are read
pub record HasAnswer {A : Type 0} (names : List (List ℕ)) (read : ℕ) (over : Table → A → Type 0) (count : Option Field) (bytes : List ℕ) (a : A)
    : Type 0 where
  pub table : Table
  pub holds : HoldsCounts names read count bytes table
  pub answer : over table a

-- there is none over the table of the bytes, by a stop: the fault says so, with this table and the names of its vertices
pub record LacksAnswer (names : List (List ℕ)) (read : ℕ) (lacks : Table → EvalFault → Type 0) (count : Option Field) (bytes : List ℕ)
    (named : List (List ℕ)) (counted : Table) (fault : EvalFault) : Type 0 where
  pub table : Table
  pub holds : HoldsCounts names read count bytes table
  pub named_so : named ≡ names
  pub counted_so : counted ≡ table
  pub counts : AreCounts table
  pub value : lacks table fault

-- the bytes are no counts of the vertices that are read: their text has this fault
pub record AreNoCounts (names : List (List ℕ)) (read : ℕ) (count : Option Field) (bytes : List ℕ) (fault : CountFault) : Type 0 where
  pub small : length bytes ≤ 67108864
  pub no_memory : fault ≢ counts.NoMemory
  pub found : text_fault bytes names read count ≡ Some fault

-- why there is no answer
abbrev pub IsBytesFault : (names : List (List ℕ)) (read : ℕ) (lacks : Table → EvalFault → Type 0) → Option Field → (bytes : List ℕ) → ValuesFault → Type 0
IsBytesFault names read lacks count bytes TooLong = 67108864 < length bytes
IsBytesFault names read lacks count bytes (Counts fault) = AreNoCounts names read count bytes fault
IsBytesFault names read lacks count bytes (NoValue named t fault) = LacksAnswer names read lacks count bytes named.now t fault
IsBytesFault names read lacks count bytes NoMemory = ⊥

-- the answer, or why there is none
abbrev pub IsForBytes : {A : Type 0} → (names : List (List ℕ)) (read : ℕ) (over : Table → A → Type 0) (lacks : Table → EvalFault → Type 0) → Option Field
    → (bytes : List ℕ) → Result A ValuesFault → Type 0
IsForBytes names read over lacks count bytes (Ok a) = HasAnswer names read over count bytes a
IsForBytes names read over lacks count bytes (Err fault) = IsBytesFault names read lacks count bytes fault

-- why there is no answer over a table
abbrev pub IsTableFault : (names : List (List ℕ)) (lacks : Table → EvalFault → Type 0) → Table → ValuesFault → Type 0
IsTableFault names lacks t (NoValue named counted fault) = (named.now ≡ names) × (counted ≡ t) × AreCounts t × lacks t fault
IsTableFault names lacks t fault = ⊥
