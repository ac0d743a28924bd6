use Rattle.std.proofs.Common.{◌≡◌, Some, refl, ap, ◌∙◌, rules, arith}
use Rattle.mixed_graph.specs.Vocabulary.{graph_of}
use Rattle.prob_expr.specs.Vocabulary.{masks_of, views}
use Rattle.prob_expr.specs.Tree.{sum, quotient}
use Rattle.prob_expr.specs.View.{view}
use Rattle.prob_expr.proofs.Views.{view-Product}
use Rattle.do_derivation.specs.Shapes.{child}
use Rattle.do_derivation.specs.View.{step_view}
use Rattle.do_derivation.proofs.StepViews
use Rattle.do_derivation.proofs.Turns
use Rattle.do_derivation.proofs.Views.{view-Sum, view-Quotient}
use Rattle.do_derivation.proofs.applying.+applying.Goals as goal

pub apply_all-loop-i-init : goal.apply_all-loop-i-init
apply_all-loop-i-init t c = record { terms = c.requires.terms; count = refl; makes = λ x h. h; refuses = λ k f h. h }

pub apply_all-loop-i-preserved : goal.apply_all-loop-i-preserved
apply_all-loop-i-preserved t c =
    Turns.left_more (graph_of c.args.g.now) c.args.g.now.valid (masks_of c.args.lemmas.now) c.args.steps.now c.loop-i.i c.index-steps-i.result
    (view c.loop-i.made) (view c.in-Ok.next) (view c.args.e)
    c.loop-i.count c.apply_step.new.count c.args.count.now (omega arith)
    c.index-steps-i.is c.loop-i.invariant c.in-Ok.ensures.applied.0 c.in-Ok.ensures.applied.1

pub apply_child-returns-in-Err : goal.apply_child-returns-in-Err
apply_child-returns-in-Err t c =
    let zero : c.args.i ≡ 0 = omega arith in
    let seen : view c.args.e ≡ sum c.in-Sum.over.bits (view c.in-Sum.body.value) = ap view c.in-Sum.is ∙ view-Sum c.in-Sum.over c.in-Sum.body in
    let at : child (view c.args.e) c.args.i ≡ Some (view c.in-Sum.body.value) = rw (seen, zero) refl in
    record {
      applied = Turns.child_err (graph_of c.args.g.now) (masks_of c.args.lemmas.now) (step_view c.args.inner.now) (view c.args.e)
          (view c.in-Sum.body.value) c.args.i c.args.count.now c.tick.new.count c.apply_boxed.new.count c.in-Err.refusal at c.tick.ensures
          c.in-Err.ensures.applied;
    }

pub apply_child-returns-in-Product : goal.apply_child-returns-in-Product
apply_child-returns-in-Product t c =
    record {
      applied = Turns.child_product (graph_of c.args.g.now) (masks_of c.args.lemmas.now) (step_view c.args.inner.now) (view c.args.e)
          (views c.in-Product.factors.items) c.args.i c.args.count.now c.tick.new.count c.apply_factor.new.count c.apply_factor.result
          (ap view c.in-Product.is ∙ view-Product c.in-Product.factors) c.tick.ensures c.apply_factor.ensures.applied;
    }

pub apply_child-returns-in-Err-apply_boxed : goal.apply_child-returns-in-Err-apply_boxed
apply_child-returns-in-Err-apply_boxed t c =
    let number : c.args.i ≡ 0 = omega arith in
    let seen : view c.args.e ≡ quotient (view c.in-Quotient.top.value) (view c.in-Quotient.bottom.value) = ap view c.in-Quotient.is
    ∙ view-Quotient c.in-Quotient.top c.in-Quotient.bottom in
    let at : child (view c.args.e) c.args.i ≡ Some (view c.in-Quotient.top.value) = rw (seen, number) refl in
    record {
      applied = Turns.child_err (graph_of c.args.g.now) (masks_of c.args.lemmas.now) (step_view c.args.inner.now) (view c.args.e)
          (view c.in-Quotient.top.value) c.args.i c.args.count.now c.tick.new.count c.apply_boxed-then-i-eq0.new.count c.in-Err-apply_boxed.refusal at
          c.tick.ensures c.in-Err-apply_boxed.ensures.applied;
    }

pub apply_child-returns-in-Err-apply_boxed-2 : goal.apply_child-returns-in-Err-apply_boxed-2
apply_child-returns-in-Err-apply_boxed-2 t c =
    let number : c.args.i ≡ 1 = omega arith in
    let seen : view c.args.e ≡ quotient (view c.in-Quotient.top.value) (view c.in-Quotient.bottom.value) = ap view c.in-Quotient.is
    ∙ view-Quotient c.in-Quotient.top c.in-Quotient.bottom in
    let at : child (view c.args.e) c.args.i ≡ Some (view c.in-Quotient.bottom.value) = rw (seen, number) refl in
    record {
      applied = Turns.child_err (graph_of c.args.g.now) (masks_of c.args.lemmas.now) (step_view c.args.inner.now) (view c.args.e)
          (view c.in-Quotient.bottom.value) c.args.i c.args.count.now c.tick.new.count c.apply_boxed-then-i-eq1.new.count c.in-Err-apply_boxed-2.refusal at
          c.tick.ensures c.in-Err-apply_boxed-2.ensures.applied;
    }

pub apply_factor-apply_step-requires : goal.apply_factor-apply_step-requires
apply_factor-apply_step-requires t c = (
  search rules,
  Turns.factor_terms c.args.g.now.n (views c.args.factors.items) c.args.i (view c.take_factor-child.result)
      c.requires.terms c.take_factor-child.ensures.taken,
)

pub apply_step-returns-in-Make : goal.apply_step-returns-in-Make
apply_step-returns-in-Make t c =
    record {
      applied = Turns.moved (graph_of c.args.g.now) (masks_of c.args.lemmas.now) (view c.args.e)
          c.args.count.now c.counted.new.count c.make.result c.counted.result c.in-Make.is (StepViews.step-Make c.in-Make.done)
          c.counted.ensures c.make.ensures.row;
    }
