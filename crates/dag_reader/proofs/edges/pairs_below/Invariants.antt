use Rattle.std.proofs.Common.{◌≡◌, map}
use Rattle.std.specs.List.{flat_map}
use Rattle.mixed_graph.specs.Vocabulary.{members_below}
use Rattle.dag_reader.specs.Rows.{row_has, count_up}
use Rattle.dag_reader.proofs.edges.pairs_below.Given as goal

abbrev pub invariant-loop-a : goal.invariant-loop-a
invariant-loop-a l = l.out.items ≡ flat_map (λ a. map (λ b. (a, b)) (members_below (row_has l.rows a) l.n)) (count_up l.a)
