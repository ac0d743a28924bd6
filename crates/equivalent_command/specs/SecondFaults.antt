-- What is told of what is wrong with a second graph.
use Rattle.std.specs.Prelude.{Bool, true, false, []}
use Rattle.dag_reader.specs.declared.faults.GraphFault.TheVariants as graphs
use Rattle.targets.specs.declared.fault.TargetFault.TheVariants as targets
use Rattle.replies.specs.Told.{Told}
use Rattle.replies.specs.declared.outcome.Outcome.TheVariants.{Second}
use Rattle.replies.specs.Vocabulary.{refusal_of}
use Rattle.told.specs.Vocabulary.{Refusal}
use Rattle.equivalent_command.specs.Refusals.{second_size_told, second_graph_told, second_target_told}
use Rattle.equivalent_command.specs.declared.second.SecondFault.{SecondFault}
use Rattle.equivalent_command.specs.declared.second.SecondFault.TheVariants.{TooLong, Faulty, Unlike, NoMemory}

-- want of memory is one of the faults
abbrev pub is_memory : SecondFault → Bool
is_memory TooLong = false
is_memory (Faulty bytes graphs.NoMemory) = true
is_memory (Faulty bytes fault) = false
is_memory (Unlike targets.NoMemory) = true
is_memory (Unlike fault) = false
is_memory NoMemory = true

-- the line and the object of the others
abbrev pub fault_told : SecondFault → Told
fault_told TooLong = second_size_told
fault_told (Faulty bytes fault) = second_graph_told bytes.now fault
fault_told (Unlike fault) = second_target_told fault
fault_told NoMemory = refusal_of [] []

-- the refusal of a second graph
abbrev pub second_refusal : Refusal SecondFault
second_refusal = record { outcome = λ fault. Second; told = fault_told; is_memory = is_memory }
