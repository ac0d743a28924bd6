use Rattle.std.proofs.Common.{◌≡◌, ap, ◌∙◌, arith, sym, refl, subst, length, get_or}
use Rattle.std.proofs.lemmas.List.{length-map}
use Rattle.mixed_graph.specs.Vocabulary.{IsMixedGraph, graph_from, graph_of}
use Rattle.mixed_graph.proofs.Restricting.{same_graph}
use Rattle.latent_projection.proofs.Numbering.{IsMixedGraph-renumbered}
use Rattle.equivalent_command.specs.Numbers.{places, on_names}
use Rattle.equivalent_command.proofs.Placing.{edge_same}
use Rattle.equivalent_command.proofs.numbers.graph_on.Goals as goal
use Rattle.equivalent_command.proofs.numbers.graph_on.Goals.{After-rows_at-3}

is_on : (c : After-rows_at-3) → graph_from c.count-n.result c.rows_at-2.result c.rows_at-3.result
    ≡ on_names c.args.names.now c.args.other.now.names (graph_of c.args.other.now.graph)
is_on c = let size = c.count-n.ensures.count in let len : length (places c.args.names.now c.args.other.now.names) ≡ length c.args.names.now =
    simp length-map refl in
    ap (λ n. graph_from n c.rows_at-2.result c.rows_at-3.result) (size ∙ sym len)
    ∙ same_graph (length (places c.args.names.now c.args.other.now.names)) _ _ _ _
    (λ a b. c.rows_at-2.ensures a b ∙ edge_same c.args.names.now c.args.other.now.names c.places-places.result c.count-n.result
    (graph_of c.args.other.now.graph).arrow size c.places-places.ensures.places a b)
    (λ a b. c.rows_at-3.ensures a b ∙ edge_same c.args.names.now c.args.other.now.names c.places-places.result c.count-n.result
    (graph_of c.args.other.now.graph).both size c.places-places.ensures.places a b)

pub invariant_of-result : goal.invariant_of-result
invariant_of-result c = record {
  small = let few = c.count-n.ensures.names.few in let size = c.count-n.ensures.count in omega (arith, few, size);
  agree = λ u v. c.rows_at.ensures v u
      ∙ (let e = c.args.other.now.graph.agree (get_or c.places-places.result v 0) (get_or c.places-places.result u 0) in
      let f = c.args.other.now.graph.agree (get_or c.places-places.result u 0) (get_or c.places-places.result v 0) in grind arith)
      ∙ sym (c.rows_at-2.ensures u v);
  valid = subst IsMixedGraph (sym (is_on (goal.at.invariant_of-result c).After-rows_at-3))
      (IsMixedGraph-renumbered (graph_of c.args.other.now.graph) (places c.args.names.now c.args.other.now.names) c.args.other.now.graph.valid);
}

pub returns : goal.returns
returns c = is_on (goal.at.returns c).After-rows_at-3
