-- What is told where there are no values over counts.
use Rattle.std.specs.Prelude.{Bool, true, false, []}
use Rattle.answer_text.specs.Vocabulary.{line_of}
use Rattle.answer_json.specs.Vocabulary.{json_line}
use Rattle.count_rows.specs.Vocabulary.{count_fault_text, count_size_text}
use Rattle.count_rows.specs.declared.fault.CountFault.TheVariants as counts
use Rattle.count_json.specs.Vocabulary.{count_fault_json, count_size_json, evaluation_fault_json}
use Rattle.replies.specs.declared.outcome.Outcome.{Outcome}
use Rattle.replies.specs.declared.outcome.Outcome.TheVariants.{Second, Evaluation}
use Rattle.replies.specs.Vocabulary.{refusal_of}
use Rattle.replies.specs.Told.{Told}
use Rattle.told.specs.Vocabulary.{Refusal}
use Rattle.evaluate_command.specs.Stopped.{is_stop_memory, stop_words}
use Rattle.evaluate_command.specs.declared.faults.ValuesFault.{ValuesFault}
use Rattle.evaluate_command.specs.declared.faults.ValuesFault.TheVariants.{TooLong, Counts, NoValue, NoMemory}

-- want of memory is one of the faults
abbrev pub is_memory : ValuesFault → Bool
is_memory TooLong = false
is_memory (Counts counts.NoMemory) = true
is_memory (Counts fault) = false
is_memory (NoValue names t fault) = is_stop_memory fault
is_memory NoMemory = true

-- counts are refused, or a value is
abbrev pub fault_outcome : ValuesFault → Outcome
fault_outcome TooLong = Second
fault_outcome (Counts fault) = Second
fault_outcome (NoValue names t fault) = Evaluation
fault_outcome NoMemory = Second

-- the line and the object
abbrev pub fault_told : ValuesFault → Told
fault_told TooLong = refusal_of (line_of count_size_text) (json_line count_size_json)
fault_told (Counts fault) = refusal_of (line_of (count_fault_text fault)) (json_line (count_fault_json fault))
fault_told (NoValue names t fault) = refusal_of (line_of (stop_words names.now t fault)) (json_line (evaluation_fault_json names.now t fault))
fault_told NoMemory = refusal_of [] []

-- the refusal
abbrev pub values_refusal : Refusal ValuesFault
values_refusal = record { outcome = fault_outcome; told = fault_told; is_memory = is_memory }
