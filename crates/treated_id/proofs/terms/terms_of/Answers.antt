use Rattle.std.proofs.Common.{◌≡◌, true, false, get_or, sym, ap, ◌∙◌, arith}
use Rattle.std.specs.Global.{Vec}
use Rattle.prob_expr.specs.declared.expr.Expr.{Expr}
use Rattle.mixed_graph.specs.Vocabulary.{has, graph_of, union, minus, common, one}
use Rattle.treated_id.proofs.Listing.{listing_skip, listing_take, listing_all}
use Rattle.treated_id.proofs.terms.terms_of.Goals as goal
use Rattle.treated_id.proofs.terms.terms_of.Goals.{then-has+in_ok-push, else-has}

pub loop-v-preserved : goal.loop-v-preserved
loop-v-preserved c =
    let is : c.union-before.result.bits ≡ union c.loop-v.before.bits (one (get_or c.args.order.now c.loop-v.v-index 0)) =
    (let a = c.union-before.ensures.mask in let b = c.one.ensures.mask in cc) in
    elim c.if-has.branch [
      | then-has+in_ok-push w ↦
          let into : has (minus c.args.s.bits c.args.c.bits) (get_or c.args.order.now c.loop-v.v-index 0) ≡ true =
          ap (λ k. has k (get_or c.args.order.now c.loop-v.v-index 0)) (sym c.difference-rest.ensures.mask) ∙ sym c.has.ensures ∙ w.if-has.true in
          let a_is : w.union-a.result.bits ≡ union c.args.c.bits (common c.args.s.bits c.union-before.result.bits) =
          w.union-a.ensures.mask ∙ ap (union c.args.c.bits) w.intersection.ensures.mask in
          listing_take (graph_of c.args.g.now) c.args.order.now c.args.x.bits c.args.s.bits c.args.c.bits c.loop-v.before.bits c.union-before.result.bits
          c.loop-v.v-index w.union-a.result.bits w.term_of.ensures.0 w.term_of.result c.loop-v.terms.items c.if-has.terms.items (omega arith) into is a_is
          w.term_of.ensures.1 w.term_of.ensures.2 (ap (λ (k : Vec Expr). k.items) w.terms-is ∙ w.in_ok-push.ensures.items) c.loop-v.invariant
      | else-has w ↦
          let out : has (minus c.args.s.bits c.args.c.bits) (get_or c.args.order.now c.loop-v.v-index 0) ≡ false =
          ap (λ k. has k (get_or c.args.order.now c.loop-v.v-index 0)) (sym c.difference-rest.ensures.mask) ∙ sym c.has.ensures ∙ w.if-has.false in
          rw (w.terms-is) (listing_skip (graph_of c.args.g.now) c.args.order.now c.args.x.bits c.args.s.bits c.args.c.bits c.loop-v.before.bits
          c.union-before.result.bits c.loop-v.v-index c.loop-v.terms.items (omega arith) out is c.loop-v.invariant)
    ]

pub returns : goal.returns
returns c = listing_all (graph_of c.args.g.now) c.args.order.now c.args.x.bits c.args.s.bits c.args.c.bits c.loop-v.before.bits c.loop-v.v-index
    c.loop-v.terms.items (omega arith) c.loop-v.invariant
