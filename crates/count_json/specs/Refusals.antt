-- Bytes that are refused as counts.
use Rattle.std.specs.Prelude.{ℕ, ◌≡◌, ◌≢◌, ◌<◌, ◌≤◌, List, length, Option, Some}
use Rattle.answer_text.specs.Vocabulary.{line_of}
use Rattle.count_rows.specs.declared.fault.CountFault.{CountFault}
use Rattle.count_rows.specs.declared.fault.CountFault.TheVariants.{NoMemory}
use Rattle.count_rows.specs.Vocabulary.{count_fault_text, count_size_text, Field}
use Rattle.count_table.specs.Vocabulary.{text_fault}
use Rattle.answer_json.specs.Vocabulary.{json_line}
use Rattle.count_json.specs.CountFaults.{count_fault_json, count_size_json}

-- the bytes are no counts of the used vertices, and the line and the object say why: they are too many, or their text has a fault
pub data AreRefusedCounts (names : List (List ℕ)) (used : ℕ) (count : Option Field) (bytes line object : List ℕ) : Type 0 where
  too_long : 67108864 < length bytes → line ≡ line_of count_size_text → object ≡ json_line count_size_json
      → AreRefusedCounts names used count bytes line object
  faulty : (fault : CountFault) → length bytes ≤ 67108864 → fault ≢ NoMemory → text_fault bytes names used count ≡ Some fault
      → line ≡ line_of (count_fault_text fault) → object ≡ json_line (count_fault_json fault)
      → AreRefusedCounts names used count bytes line object
