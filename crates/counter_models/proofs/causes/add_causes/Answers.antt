use Rattle.std.proofs.Common.{◌≡◌, ◌∙◌, sym, ap, arith}
use Rattle.mixed_graph.proofs.Masks.{below_64}
use Rattle.counter_models.proofs.Lists.{adding-none, adding-same, adding-more}
use Rattle.counter_models.proofs.causes.add_causes.Goals as goal
use Rattle.counter_models.proofs.causes.add_causes.Goals.{then-has+in_ok-vec+in_ok-push, else-has}

pub loop-v-init : goal.loop-v-init
loop-v-init c = adding-none c.args.causes.now.items c.args.set.bits

pub loop-v-preserved : goal.loop-v-preserved
loop-v-preserved c = elim c.if-has.branch [
  | then-has+in_ok-vec+in_ok-push w ↦ adding-more c.args.causes.now.items c.loop-v.causes.items c.if-has.causes.items
      (record { weights = w.in_ok-vec.field-0; children = w.one.result }) c.args.set.bits c.loop-v.v
      (ap (λ q. q.items) w.causes-is ∙ w.in_ok-push.ensures.items) (sym c.has.ensures ∙ w.if-has.true)
      w.in_ok-vec.ensures.items w.one.ensures.members c.loop-v.invariant
  | else-has w ↦ rw w.causes-is (adding-same c.args.causes.now.items c.loop-v.causes.items c.args.set.bits c.loop-v.v (sym c.has.ensures ∙ w.if-has.false)
      c.loop-v.invariant)
]

pub returns-clause-fresh : goal.returns-clause-fresh
returns-clause-fresh c = λ v i. let h : c.loop-v.v ≡ 64 = omega arith in
    c.loop-v.invariant.fresh v (let m = below_64 c.args.set.bits v (omega arith) i in omega arith) i
