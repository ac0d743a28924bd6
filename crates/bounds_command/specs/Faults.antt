-- What is told where there are no bounds over counts.
use Rattle.std.specs.Prelude.{ℕ, Bool, true, false, List, [], ◌∷◌, ◌++◌, codes, decimal}
use Rattle.json.specs.Json.{Json, null, number}
use Rattle.mixed_graph.specs.Vocabulary.{has, members_below}
use Rattle.answer_text.specs.Vocabulary.{line_of}
use Rattle.answer_json.specs.Progress.{Progress}
use Rattle.answer_json.specs.Vocabulary.{with_members, json_line, fault_json, fault_begun}
use Rattle.count_rows.specs.declared.fault.CountFault.{CountFault}
use Rattle.count_rows.specs.Vocabulary.{Table, count_fault_text, count_size_text}
use Rattle.count_rows.specs.declared.fault.CountFault.TheVariants as count
use Rattle.count_eval.specs.Vocabulary.{cell_of}
use Rattle.count_answers.specs.Vocabulary.{assignments}
use Rattle.count_json.specs.Vocabulary.{cell_json, count_fault_json, count_size_json}
use Rattle.replies.specs.declared.outcome.Outcome.{Outcome}
use Rattle.replies.specs.declared.outcome.Outcome.TheVariants.{Second, Evaluation}
use Rattle.replies.specs.Vocabulary.{refusal_of, answer_of}
use Rattle.replies.specs.Told.{Told}
use Rattle.told.specs.Vocabulary.{Refusal}
use Rattle.bounds_command.specs.declared.faults.BoundsFault.{BoundsFault}
use Rattle.bounds_command.specs.declared.faults.BoundsFault.TheVariants.{TooLong, Counts, NoRecords, TooWide, NoMemory}

-- what is given has no records at a cell
abbrev pub records_text : List (List ℕ) → Table → (given : ℕ) → (ℕ → ℕ) → List ℕ
records_text names t given cell = codes "evaluation fault 1: main node 0 at " ++ assignments names t cell (members_below (has given) 64)

-- a number is too wide
abbrev pub wide_text : List ℕ
wide_text = codes "evaluation fault 2: main node 0"

-- the members of an evaluation fault: there is one expression alone
abbrev pub stop_members : List (List ℕ × Json)
stop_members = (codes "definition", null) ∷ (codes "node", number (decimal 0)) ∷ []

-- such a fault up to its node
abbrev pub stop_begun : ℕ → List ℕ → Progress
stop_begun k message = with_members stop_members (fault_begun (codes "evaluation") k message)

-- the same as an object
abbrev pub records_json : List (List ℕ) → Table → (given : ℕ) → (ℕ → ℕ) → Json
records_json names t given cell = fault_json (codes "evaluation") 1 (codes "a divisor is 0 over these counts")
    (stop_members ++ (codes "cell", cell_json names t cell (members_below (has given) 64)) ∷ [])

-- the same as an object
abbrev pub wide_json : Json
wide_json = fault_json (codes "evaluation") 2 (codes "a number passes 2^127 - 1") stop_members

-- ---- all faults

-- the status of a fault
abbrev pub fault_outcome : BoundsFault → Outcome
fault_outcome TooLong = Second
fault_outcome (Counts fault) = Second
fault_outcome (NoRecords counts given cell) = Evaluation
fault_outcome TooWide = Evaluation
fault_outcome NoMemory = Evaluation

-- the line of a fault, by the names of the vertices
abbrev pub fault_told : List (List ℕ) → BoundsFault → Told
fault_told names TooLong = refusal_of (line_of count_size_text) (json_line count_size_json)
fault_told names (Counts fault) = refusal_of (line_of (count_fault_text fault)) (json_line (count_fault_json fault))
fault_told names (NoRecords t given cell) = refusal_of (line_of (records_text names t given.bits (cell_of cell)))
    (json_line (records_json names t given.bits (cell_of cell)))
fault_told names TooWide = refusal_of (line_of wide_text) (json_line wide_json)
fault_told names NoMemory = answer_of []

-- memory was refused while the counts were read
abbrev pub is_count_memory : CountFault → Bool
is_count_memory count.NoMemory = true
is_count_memory fault = false

-- memory was refused
abbrev pub is_memory : BoundsFault → Bool
is_memory TooLong = false
is_memory (Counts fault) = is_count_memory fault
is_memory (NoRecords counts given cell) = false
is_memory TooWide = false
is_memory NoMemory = true

-- the refusal, by the names of the vertices
abbrev pub bounds_refusal : List (List ℕ) → Refusal BoundsFault
bounds_refusal names = record { outcome = fault_outcome; told = fault_told names; is_memory = is_memory }
