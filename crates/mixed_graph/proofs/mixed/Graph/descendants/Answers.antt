use Rattle.std.proofs.Common.{refl}
use Rattle.mixed_graph.specs.Bits.{has}
use Rattle.mixed_graph.specs.Shown.{graph_of}
use Rattle.mixed_graph.specs.Arrows.{graph_of_rows}
use Rattle.mixed_graph.proofs.Paths.{ancestor_same}
use Rattle.mixed_graph.proofs.Flips.{flip, descendant_from, from_descendant}
use Rattle.mixed_graph.proofs.mixed.Graph.descendants.Goals as goal

pub closure-requires-clause-rows : goal.closure-requires-clause-rows
closure-requires-clause-rows c = λ u v a. c.args.self.now.valid.head_below v u a

pub returns : goal.returns
returns c = λ v. (
  λ t. descendant_from (graph_of c.args.self.now) (has c.args.s.bits) v
      (ancestor_same (graph_of_rows c.args.self.now.n c.args.self.now.children) (flip (graph_of c.args.self.now)) (has c.args.s.bits) v refl
      (λ u w. refl) ((c.closure.ensures v).0 t)),
  λ d. (c.closure.ensures v).1 (ancestor_same (flip (graph_of c.args.self.now)) (graph_of_rows c.args.self.now.n c.args.self.now.children) (has c.args.s.bits)
      v refl
      (λ u w. refl) (from_descendant (graph_of c.args.self.now) (has c.args.s.bits) v d)),
)
