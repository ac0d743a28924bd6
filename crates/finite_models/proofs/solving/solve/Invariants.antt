use Rattle.std.proofs.Common.{◌≡◌, ℕ, ◌<◌, length, get_or, IsTrue}
use Rattle.mixed_graph.specs.Vocabulary.{has, taken_by, graph_of}
use Rattle.finite_models.specs.Models.{intervene, solution}
use Rattle.finite_models.specs.Data.{meaning}
use Rattle.finite_models.specs.Worlds.{value_in_world}
use Rattle.finite_models.proofs.solving.solve.Given as goal

abbrev pub invariant-loop-i : goal.invariant-loop-i
invariant-loop-i l = record {
  entries : length l.values ≡ 64;
  in_range : (p : ℕ) → p < l.g.n → get_or l.values p 0 < get_or l.m.sizes.items p 0;
  solved : (p : ℕ) → IsTrue (taken_by l.order.list l.i p) → get_or l.values p 0
      ≡ solution (intervene (meaning (graph_of l.g) l.m) (has l.do_set.bits) (λ q. get_or l.at q 0)) (value_in_world l.m.causes.items l.world) p;
}
