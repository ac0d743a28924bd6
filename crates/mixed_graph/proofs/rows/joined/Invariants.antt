use Rattle.mixed_graph.proofs.Joining.{Joining}
use Rattle.mixed_graph.proofs.rows.joined.Given as goal

abbrev pub invariant-each : goal.invariant-each
invariant-each l = Joining l.rows l.fn.members.bits l.v-iterator l.all.bits
