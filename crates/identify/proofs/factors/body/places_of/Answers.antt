use Rattle.std.proofs.Common.{◌≡◌, true, false, get_or, sym, ap, ◌∙◌, arith}
use Rattle.std.specs.Global.{Vec}
use Rattle.prob_expr.specs.declared.expr.Expr.{Expr}
use Rattle.do_derivation.specs.declared.steps.Step.{Step}
use Rattle.mixed_graph.specs.Vocabulary.{has, graph_of, union, one}
use Rattle.identify.specs.Parts.{source_of}
use Rattle.identify.proofs.Placing.{placing_skip, placing_take, placing_factors, placing_lists}
use Rattle.identify.proofs.factors.body.places_of.Goals as goal
use Rattle.identify.proofs.factors.body.places_of.Goals.{then-has+in_ok-term+in_ok-push+in_ok-push-2, else-has}

pub loop-v-preserved : goal.loop-v-preserved
loop-v-preserved c =
    let is : c.union-before.result.bits ≡ union c.loop-v.before.bits (one (get_or c.args.order.now c.loop-v.v-index 0)) =
    (let a = c.union-before.ensures.mask in let b = c.one.ensures.mask in cc) in
    elim c.if-has.branch [
      | then-has+in_ok-term+in_ok-push+in_ok-push-2 w ↦
          let into : has c.args.t.bits (get_or c.args.order.now c.loop-v.v-index 0) ≡ true = sym c.has.ensures ∙ w.if-has.true in
          placing_take c.args.wanted (graph_of c.args.g.now) c.args.order.now (source_of c.args.from)
          c.args.a.bits c.args.t.bits c.loop-v.before.bits c.union-before.result.bits c.loop-v.v-index
          c.loop-v.factors.items c.if-has.factors.items c.loop-v.lists.items c.if-has.lists.items w.in_ok-term.field-0 (omega arith)
          into is w.in_ok-term.ensures
          (ap (λ (x : Vec Expr). x.items) w.factors-is ∙ w.in_ok-push.ensures.items)
          (ap (λ (x : Vec (Vec Step)). x.items) w.lists-is ∙ w.in_ok-push-2.ensures.items) c.loop-v.invariant
      | else-has w ↦
          let out : has c.args.t.bits (get_or c.args.order.now c.loop-v.v-index 0) ≡ false = sym c.has.ensures ∙ w.if-has.false in
          rw (w.factors-is, w.lists-is) (placing_skip c.args.wanted (graph_of c.args.g.now) c.args.order.now (source_of c.args.from)
          c.args.a.bits c.args.t.bits c.loop-v.before.bits c.union-before.result.bits c.loop-v.v-index
          c.loop-v.factors.items c.loop-v.lists.items (omega arith) out is c.loop-v.invariant)
    ]

pub returns : goal.returns
returns c = record {
  factors = placing_factors c.args.wanted (graph_of c.args.g.now) c.args.order.now (source_of c.args.from)
      c.args.a.bits c.args.t.bits c.loop-v.before.bits c.loop-v.v-index c.loop-v.factors.items c.loop-v.lists.items (omega arith) c.loop-v.invariant;
  lists = placing_lists c.args.wanted (graph_of c.args.g.now) c.args.order.now (source_of c.args.from)
      c.args.a.bits c.args.t.bits c.loop-v.before.bits c.loop-v.v-index c.loop-v.factors.items c.loop-v.lists.items (omega arith) c.loop-v.invariant;
}
