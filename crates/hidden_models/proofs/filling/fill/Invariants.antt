use Rattle.std.proofs.Common.{◌≡◌, ℕ, ◌<◌, length, get_or, IsTrue}
use Rattle.mixed_graph.specs.Vocabulary.{has, taken_by, graph_of}
use Rattle.finite_models.specs.Vocabulary.{meaning}
use Rattle.hidden_models.specs.Values.{filled}
use Rattle.hidden_models.proofs.filling.fill.Given as goal

abbrev pub invariant-loop-i : goal.invariant-loop-i
invariant-loop-i l = record {
  entries : length l.values ≡ 64;
  in_range : (p : ℕ) → p < l.g.n → get_or l.values p 0 < get_or l.m.sizes.items p 0;
  solved : (p : ℕ) → IsTrue (taken_by l.order.list l.i p) → get_or l.values p 0
      ≡ filled (meaning (graph_of l.g) l.m) (has l.latent.bits) (λ q. get_or l.at q 0) (λ j. get_or l.world j 0) p;
}
