use Rattle.std.proofs.Common.{sym, ◌∙◌}
use Rattle.mixed_graph.proofs.Masks.{has-zero}
use Rattle.mixed_graph.proofs.Building.{graph_is_valid}
use Rattle.mixed_graph.proofs.mixed.Graph.build.Goals as goal

pub invariant_of-result : goal.invariant_of-result
invariant_of-result c = record {
  small = c.requires.size;
  agree = λ a b. c.tails.ensures a b ∙ sym (c.heads-children.ensures a b);
  valid = graph_is_valid c.args.n c.args.directed.now c.args.both.now c.heads-children.result c.neighbours.result
      c.requires.directed_ends c.requires.both_ends (sym c.in_default-loop_among.ensures) c.heads-children.ensures c.neighbours.ensures
      (λ a. c.stuck-rest.ensures.taken a (let z = c.is_empty.ensures.none.0 c.if-not-is_empty.false in rw z (has-zero a)));
}
