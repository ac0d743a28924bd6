use Rattle.std.proofs.Common.{◌≡◌, length, true}
use Rattle.std.specs.Prelude.{find, option_map, nat_lt}
use Rattle.std.specs.List.{list_all}
use Rattle.dag_reader.specs.MarkEnds.{is_inside}
use Rattle.dag_reader.specs.Passes.{Edge, edges_behind, is_self_loop, self_loop}
use Rattle.dag_reader.proofs.edges.self_loop.Given as goal

abbrev pub invariant-loop-rest : goal.invariant-loop-rest
invariant-loop-rest l = record {
  found : option_map (λ (e : Edge). e.left) (find is_self_loop (edges_behind l.left.items l.rest)) ≡ option_map (λ (e : Edge). e.left) (self_loop l.marks);
  left : list_all (λ v. nat_lt v 64) l.left.items ≡ true;
  inside : list_all (is_inside 64) l.rest ≡ true;
}

abbrev pub decreases-loop-rest : goal.decreases-loop-rest
decreases-loop-rest l = length l.rest
