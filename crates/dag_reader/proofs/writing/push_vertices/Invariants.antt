use Rattle.std.proofs.Common.{◌≡◌, ◌++◌, drop}
use Rattle.dag_reader.specs.Written.{vertex_lines}
use Rattle.dag_reader.proofs.writing.push_vertices.Given as goal

abbrev pub invariant-loop-i : goal.invariant-loop-i
invariant-loop-i l = l.out.items ++ vertex_lines (drop l.i l.names) (drop l.i l.roles) ≡ l.initial.out.items ++ vertex_lines l.names l.roles
