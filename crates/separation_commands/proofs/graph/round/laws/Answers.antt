use Rattle.std.proofs.Common.{arith}
use Rattle.separation_commands.proofs.graph.round.laws.Goals as goal

pub returns-clause-held : goal.returns-clause-held
returns-clause-held c = λ g small. record { small = small; reads = c.the_written_text.ensures.read g }

pub returns-clause-long : goal.returns-clause-long
returns-clause-long c = λ g h long held. let small = held.small in absurd (omega (arith, long, small))
