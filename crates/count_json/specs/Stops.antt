-- The objects of evaluations without a value.
use Rattle.std.specs.Prelude.{ℕ, List, [], ◌∷◌, Option, Some, None, codes, decimal}
use Rattle.json.specs.Json.{Json, null, number}
use Rattle.quantity.specs.declared.fault.QuantityFault.{QuantityFault}
use Rattle.quantity.specs.declared.fault.QuantityFault.TheVariants.{ZeroBelow, TooWide, TooFine}
use Rattle.count_rows.specs.Vocabulary.{Table}
use Rattle.count_eval.specs.Stops.{Stop}
use Rattle.count_eval.specs.declared.failure.EvalFault.{EvalFault}
use Rattle.count_eval.specs.declared.failure.EvalFault.TheVariants.{NoSupport, NoMemory}
use Rattle.count_eval.specs.Vocabulary.{cell_of}
use Rattle.count_eval.specs.declared.failure.EvalFault.TheVariants as fault
use Rattle.answer_json.specs.Progress.{Progress}
use Rattle.answer_json.specs.Vocabulary.{with_members, fault_json, fault_begun}
use Rattle.count_json.specs.Cells.{cell_json}

-- the stage of these faults
unfoldable pub stage : List ℕ
stage = codes "evaluation"

-- the number of why there is no value
abbrev pub why_number : QuantityFault → ℕ
why_number ZeroBelow = 1
why_number TooWide = 2
why_number TooFine = 3

-- the same in words
unfoldable pub why_message : QuantityFault → List ℕ
why_message ZeroBelow = codes "a divisor is 0 over these counts"
why_message TooWide = codes "a number passes 2^127 - 1"
why_message TooFine = codes "a divisor lies between 0 and 10^-18"

-- the number of a definition, or none for the main expression
abbrev pub definition_json : Option ℕ → Json
definition_json None = null
definition_json (Some k) = number (decimal k)

-- the levels of all used vertices at a node where a denominator is 0
abbrev pub cell_members : QuantityFault → List (List ℕ) → Table → (ℕ → ℕ) → List (List ℕ × Json)
cell_members ZeroBelow names t cell = (codes "cell", cell_json names t cell t.vertices) ∷ []
cell_members TooWide names t cell = []
cell_members TooFine names t cell = []

-- the same up to the node
abbrev pub begun_stop : QuantityFault → (definition : Option ℕ) (node : ℕ) → Progress
begun_stop why definition node = with_members ((codes "definition", definition_json definition) ∷ (codes "node", number (decimal node)) ∷ [])
    (fault_begun stage (why_number why) (why_message why))

-- why there is no value at a node, and at which cell
abbrev pub evaluation_json : QuantityFault → List (List ℕ) → Table → (definition : Option ℕ) (node : ℕ) (cell : ℕ → ℕ) → Json
evaluation_json why names t definition node cell = fault_json stage (why_number why) (why_message why) (
    (codes "definition", definition_json definition) ∷ (codes "node", number (decimal node)) ∷ cell_members why names t cell)

-- a number too wide
abbrev pub wide_json : (definition : Option ℕ) (node : ℕ) → Json
wide_json definition node =
    fault_json stage 2 (why_message TooWide) ((codes "definition", definition_json definition) ∷ (codes "node", number (decimal node)) ∷ [])

-- a divisor too fine
abbrev pub fine_json : (definition : Option ℕ) (node : ℕ) → Json
fine_json definition node =
    fault_json stage 3 (why_message TooFine) ((codes "definition", definition_json definition) ∷ (codes "node", number (decimal node)) ∷ [])

-- why there is no value, and at which node
abbrev pub stop_json : List (List ℕ) → Table → Stop → Json
stop_json names t s = evaluation_json s.why names t s.def s.node s.cell

-- a fault of an evaluation; want of memory has none
abbrev pub evaluation_fault_json : List (List ℕ) → Table → EvalFault → Json
evaluation_fault_json names t (NoSupport cell place) = evaluation_json ZeroBelow names t place.def place.node (cell_of cell)
evaluation_fault_json names t (fault.TooWide place) = wide_json place.def place.node
evaluation_fault_json names t (fault.TooFine place) = fine_json place.def place.node
evaluation_fault_json names t NoMemory = null
