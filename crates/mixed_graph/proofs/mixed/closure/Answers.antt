use Rattle.std.proofs.Common.{sym, ◌∙◌}
use Rattle.std.proofs.lemmas.Bool.{ltb-true, lt-ltb}
use Rattle.mixed_graph.specs.Bits.{has}
use Rattle.mixed_graph.specs.Arrows.{graph_of_rows}
use Rattle.mixed_graph.proofs.Spreading.{ancestor_from_reached, reached_from_ancestor}
use Rattle.mixed_graph.proofs.mixed.closure.Goals as goal

pub returns : goal.returns
returns c = λ v. (
  λ i. ancestor_from_reached (graph_of_rows c.args.n c.args.rows.now) (has c.args.s.bits) (has c.below.result.bits)
      (λ u w. ltb-true u c.args.n (sym (c.below.ensures.members u) ∙ w)) v ((c.reached.ensures v).0 i),
  λ a. (c.reached.ensures v).1 (reached_from_ancestor (graph_of_rows c.args.n c.args.rows.now) (has c.args.s.bits) (has c.below.result.bits)
      (λ u w e. c.below.ensures.members u ∙ lt-ltb u c.args.n (c.requires.rows u w e))
      (λ u i. c.below.ensures.members u ∙ lt-ltb u c.args.n (c.requires.set u i)) v a),
)
