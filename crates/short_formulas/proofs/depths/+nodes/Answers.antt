use Rattle.std.proofs.Common.{◌-◌, ap, ◌∙◌, arith}
use Rattle.prob_expr.specs.View.{view}
use Rattle.prob_expr.specs.Vocabulary.{views}
use Rattle.prob_expr.proofs.Views.{view-Product}
use Rattle.do_derivation.proofs.Views.{view-Sum, view-Quotient}
use Rattle.identification_theory.specs.Vocabulary.{is_tree_within}
use Rattle.short_formulas.proofs.Levels.{within_sum, within_product, within_both, within_neither}
use Rattle.short_formulas.proofs.depths.+nodes.Goals as goal

pub is_tree_within-returns-in-Sum : goal.is_tree_within-returns-in-Sum
is_tree_within-returns-in-Sum t c =
    within_sum c.args.d (c.args.d - 1) c.in-Sum.over.bits (view c.in-Sum.body.value) (view c.args.e.now) c.is_tree_within.result (omega arith)
    (ap view c.in-Sum.is ∙ view-Sum c.in-Sum.over c.in-Sum.body)
    (c.is_tree_within.ensures ∙ ap (λ e. is_tree_within (c.args.d - 1) (view e)) c.deref.ensures)

pub is_tree_within-returns-in-Product : goal.is_tree_within-returns-in-Product
is_tree_within-returns-in-Product t c =
    within_product c.args.d (c.args.d - 1) (views c.in-Product.factors.items) (view c.args.e.now) c.are_trees_within.result (omega arith)
    (ap view c.in-Product.is ∙ view-Product c.in-Product.factors)
    c.are_trees_within.ensures

pub is_tree_within-returns-then-is_tree_within : goal.is_tree_within-returns-then-is_tree_within
is_tree_within-returns-then-is_tree_within t c =
    within_both c.args.d (c.args.d - 1) (view c.in-Quotient.top.value) (view c.in-Quotient.bottom.value) (view c.args.e.now)
    c.is_tree_within-in-Quotient.result c.is_tree_within-then-is_tree_within.result (omega arith)
    (ap view c.in-Quotient.is ∙ view-Quotient c.in-Quotient.top c.in-Quotient.bottom)
    (c.is_tree_within-in-Quotient.ensures ∙ ap (λ e. is_tree_within (c.args.d - 1) (view e)) c.deref-in-Quotient.ensures)
    c.if-is_tree_within.true
    (c.is_tree_within-then-is_tree_within.ensures ∙ ap (λ e. is_tree_within (c.args.d - 1) (view e)) c.deref-then-is_tree_within.ensures)

pub is_tree_within-returns-else-is_tree_within : goal.is_tree_within-returns-else-is_tree_within
is_tree_within-returns-else-is_tree_within t c =
    within_neither c.args.d (c.args.d - 1) (view c.in-Quotient.top.value) (view c.in-Quotient.bottom.value) (view c.args.e.now)
    c.is_tree_within-in-Quotient.result (omega arith)
    (ap view c.in-Quotient.is ∙ view-Quotient c.in-Quotient.top c.in-Quotient.bottom)
    (c.is_tree_within-in-Quotient.ensures ∙ ap (λ e. is_tree_within (c.args.d - 1) (view e)) c.deref-in-Quotient.ensures)
    c.if-is_tree_within.false
