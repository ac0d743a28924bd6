use Rattle.std.proofs.Common.{◌≡◌, ◌++◌, drop}
use Rattle.identify_text.specs.ModelLines.{vertex_lines}
use Rattle.identify_text.proofs.models.push_vertices.Given as goal

abbrev pub invariant-loop-v : goal.invariant-loop-v
invariant-loop-v l = l.out.items ++ vertex_lines l.names l.model l.v (drop l.v l.mechanisms) ≡ l.fn.out.items ++ vertex_lines l.names l.model 0 l.mechanisms
