use Rattle.std.proofs.Common.{sym, ◌∙◌, refl}
use Rattle.mixed_graph.specs.Bits.{has}
use Rattle.mixed_graph.specs.Shown.{graph_of}
use Rattle.mixed_graph.specs.Arrows.{graph_of_rows}
use Rattle.mixed_graph.proofs.Paths.{ancestor_same}
use Rattle.mixed_graph.proofs.mixed.Graph.ancestors.Goals as goal

pub closure-requires-clause-rows : goal.closure-requires-clause-rows
closure-requires-clause-rows c = λ u v a. c.args.self.now.valid.tail_below u v (sym (c.args.self.now.agree u v) ∙ a)

pub returns : goal.returns
returns c = λ v. (
  λ t. ancestor_same (graph_of_rows c.args.self.now.n c.args.self.now.parents) (graph_of c.args.self.now) (has c.args.s.bits) v refl
      (λ u w. c.args.self.now.agree u w) ((c.closure.ensures v).0 t),
  λ a. (c.closure.ensures v).1 (ancestor_same (graph_of c.args.self.now) (graph_of_rows c.args.self.now.n c.args.self.now.parents) (has c.args.s.bits) v refl
      (λ u w. sym (c.args.self.now.agree u w)) a),
)
