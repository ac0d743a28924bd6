use Rattle.std.proofs.Common.{length}
use Rattle.dag_reader.proofs.EdgeRows.{SoFar}
use Rattle.dag_reader.proofs.RoleRows.{RolesSoFar}
use Rattle.dag_reader.proofs.edges.edges_and_roles.Given as goal

abbrev pub invariant-turns : goal.invariant-turns
invariant-turns l = record {
  edges : SoFar l.marks l.rest l.left.bits l.arrows l.doubles;
  roles : RolesSoFar l.marks l.rest l.last l.roles;
}

abbrev pub decreases-turns : goal.decreases-turns
decreases-turns l = length l.rest
