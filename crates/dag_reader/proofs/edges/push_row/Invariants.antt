use Rattle.std.proofs.Common.{◌≡◌, ◌++◌, map}
use Rattle.mixed_graph.specs.Vocabulary.{has, members_below}
use Rattle.dag_reader.proofs.edges.push_row.Given as goal

-- the pairs of the members that are left complete the row
abbrev pub invariant-members_of_row : goal.invariant-members_of_row
invariant-members_of_row l = l.out.items ++ map (λ b. (l.a, b)) l.b-iterator ≡ l.initial.out.items
    ++ map (λ b. (l.a, b)) (members_below (has l.fn.row.bits) 64)
