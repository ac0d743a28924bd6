use Rattle.std.proofs.Common.{rules}
use Rattle.caller_memory.specs.Kept.{faulty}
use Rattle.caller_memory.proofs.kept.kept.KeptDiagram.read.Goals as goal

pub returns-else-is_memory-clause-refused : goal.returns-else-is_memory-clause-refused
returns-else-is_memory-clause-refused c = λ e. faulty c.in-Err.fault (search rules) (λ m. search rules) c.in-Err.ensures
