use Rattle.std.proofs.Common.{◌≡◌, length, map, take, ap, ap₂, ◌∙◌, subst, arith, rules}
use Rattle.mixed_graph.specs.Vocabulary.{has, IsAncestor, union, minus, graph_of}
use Rattle.hedge.specs.Vocabulary.{IsSetOf}
use Rattle.prob_expr.specs.View.{view}
use Rattle.prob_expr.specs.Vocabulary.{views}
use Rattle.do_derivation.specs.Vocabulary.{as_one}
use Rattle.identification_theory.specs.Vocabulary.{sum_if}
use Rattle.treated_id.specs.Terms.{AreNames, with_first}
use Rattle.treated_id.proofs.Listing.{order_taken}
use Rattle.treated_id.proofs.formulas.formula_of.Goals as goal

pub returns : goal.returns
returns c =
    let long : length c.order-order.result.list ≡ 64 = search rules in
    let observed = c.union-observed.ensures.mask in
    record {
      order = take c.order-order.result.count c.order-order.result.list;
      is_order = order_taken (graph_of c.args.g.now) c.order-order.result.list c.order-order.result.count
          (let few = c.order-order.result.in_range in omega (arith, few, long)) c.order-order.ensures;
      by = record {
        s = c.args.s.bits;
        are_s = c.requires.ancestors;
        c = c.ancestors-c.result.bits;
        are_c = subst (λ k. IsSetOf c.ancestors-c.result.bits (IsAncestor (graph_of c.args.g.now) (has k))) observed
            (record { sound = λ v. (c.ancestors-c.ensures v).0; complete = λ v. (c.ancestors-c.ensures v).1 });
        terms = views c.in_ok-terms.terms.items;
        are_terms = c.in_ok-terms.ensures;
        given = c.names_of-given.result.bits;
        are_given = subst (λ k. AreNames c.args.g.now.n c.args.x.bits c.args.x.bits k c.names_of-given.result.bits) observed c.names_of-given.ensures;
        defs = ap (map view) c.new.ensures.items;
        main = c.in_ok-main.ensures ∙ ap₂ sum_if
            (c.difference-2.ensures.mask ∙ ap (minus c.args.s.bits) (c.union.ensures.mask ∙ ap (λ k. union k c.args.y.bits) observed))
            (c.as_one.ensures ∙ ap as_one (c.in_ok-factors.ensures ∙ ap (λ k. with_first k c.names_of-given.result.bits (views c.in_ok-terms.terms.items))
            (c.difference.ensures.mask ∙ ap (minus c.ancestors-c.result.bits) observed)));
      };
    }
