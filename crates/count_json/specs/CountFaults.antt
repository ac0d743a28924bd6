-- The objects of the faults of counts.
use Rattle.std.specs.Prelude.{ℕ, List, [], codes}
use Rattle.json.specs.Json.{Json, null}
use Rattle.answer_json.specs.Vocabulary.{bare_fault_json, text_fault_json, number_fault_json}
use Rattle.count_rows.specs.declared.fault.CountFault.{CountFault}
use Rattle.count_rows.specs.declared.fault.CountFault.TheVariants.{NotCsv, NoColumn, TwoColumns, Count, TooLarge, SumTooLarge, NoRows, NoMemory}

-- the stage of these faults
abbrev pub stage : List ℕ
stage = codes "counts"

-- a fault of a text of counts in words; want of memory has none
unfoldable pub count_message : CountFault → List ℕ
count_message (NotCsv row) = codes "this record has another number of fields than the header"
count_message (NoColumn name) = codes "there is no column of this name"
count_message (TwoColumns name) = codes "there are two columns of this name"
count_message (Count row) = codes "the count of this record is no whole number up to 10^15"
count_message TooLarge = codes "the levels make more than 2^20 cells"
count_message SumTooLarge = codes "the counts sum to more than 10^15"
count_message NoRows = codes "the counts sum to 0"
count_message NoMemory = []

-- the object of a fault of a text of counts; want of memory has none
abbrev pub count_fault_json : CountFault → Json
count_fault_json (NotCsv row) = number_fault_json stage 1 (count_message (NotCsv row)) (codes "row") row
count_fault_json (NoColumn name) = text_fault_json stage 2 (count_message (NoColumn name)) (codes "name") name
count_fault_json (TwoColumns name) = text_fault_json stage 3 (count_message (TwoColumns name)) (codes "name") name
count_fault_json (Count row) = number_fault_json stage 4 (count_message (Count row)) (codes "row") row
count_fault_json TooLarge = bare_fault_json stage 5 (count_message TooLarge)
count_fault_json SumTooLarge = bare_fault_json stage 6 (count_message SumTooLarge)
count_fault_json NoRows = bare_fault_json stage 7 (count_message NoRows)
count_fault_json NoMemory = null

-- more than 67,108,864 bytes of counts
abbrev pub count_size_json : Json
count_size_json = bare_fault_json stage 8 (codes "the text has more than 67108864 bytes")
