-- What is told of what is wrong with counts.
use Rattle.std.specs.Prelude.{Bool, true, false, []}
use Rattle.answer_text.specs.Vocabulary.{line_of}
use Rattle.answer_json.specs.Vocabulary.{json_line}
use Rattle.count_rows.specs.Vocabulary.{count_fault_text, count_size_text}
use Rattle.count_rows.specs.declared.fault.CountFault.TheVariants as counts
use Rattle.count_json.specs.Vocabulary.{count_fault_json, count_size_json}
use Rattle.replies.specs.Told.{Told}
use Rattle.replies.specs.declared.outcome.Outcome.TheVariants.{Second}
use Rattle.replies.specs.Vocabulary.{refusal_of}
use Rattle.told.specs.Vocabulary.{Refusal}
use Rattle.implications_command.specs.declared.fault.CountsFault.{CountsFault}
use Rattle.implications_command.specs.declared.fault.CountsFault.TheVariants.{TooLong, Faulty, NoMemory}

-- want of memory is one of the faults
abbrev pub is_memory : CountsFault → Bool
is_memory TooLong = false
is_memory (Faulty counts.NoMemory) = true
is_memory (Faulty fault) = false
is_memory NoMemory = true

-- the line and the object of the others
abbrev pub fault_told : CountsFault → Told
fault_told TooLong = refusal_of (line_of count_size_text) (json_line count_size_json)
fault_told (Faulty fault) = refusal_of (line_of (count_fault_text fault)) (json_line (count_fault_json fault))
fault_told NoMemory = refusal_of [] []

-- the refusal of counts
abbrev pub counts_refusal : Refusal CountsFault
counts_refusal = record { outcome = λ fault. Second; told = fault_told; is_memory = is_memory }
