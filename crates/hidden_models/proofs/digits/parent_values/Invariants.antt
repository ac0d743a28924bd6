use Rattle.std.proofs.Common.{◌≡◌, ◌-◌, get_or, length}
use Rattle.mixed_graph.specs.Vocabulary.{graph_of}
use Rattle.hidden_models.proofs.Written.{AreWritten}
use Rattle.hidden_models.proofs.digits.parent_values.Given as goal

abbrev pub invariant-loop-i : goal.invariant-loop-i
invariant-loop-i l = record {
  long : length l.values ≡ 64;
  written : AreWritten l.p.n (λ k. (graph_of l.p).arrow k l.v) (λ k. get_or l.m.sizes.items k 0) l.number (λ k. get_or l.values k 0) l.rest (l.n - l.i);
}
