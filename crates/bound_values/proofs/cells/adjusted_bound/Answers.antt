use Rattle.std.proofs.Common.{◌≡◌, ◌∙◌, ap₂, arith}
use Rattle.fractions.specs.Vocabulary.{over}
use Rattle.count_eval.specs.Vocabulary.{weights_in, cell_of}
use Rattle.natural_bounds.specs.Vocabulary.{joint, treated}
use Rattle.bound_values.specs.Questions.{asked_of, joint_set, treated_set}
use Rattle.bound_values.proofs.Parts.{adjusted_said}
use Rattle.bound_values.proofs.Sums.{sum_is, joint_less, small}
use Rattle.bound_values.proofs.cells.adjusted_bound.Goals as goal
use Rattle.bound_values.proofs.cells.adjusted_bound.Goals.{After-sum}

joint_is : (c : After-sum) → c.sum.result ≡ joint (weights_in c.args.scope.now.n c.args.scope.now.counts.now) (asked_of c.args.scope.now.question) (cell_of c.args.cell.now)
joint_is c = sum_is c.args.scope.now.counts.now c.args.scope.now.sums.now c.joint.result.bits (joint_set (asked_of c.args.scope.now.question)) c.args.cell.now
    c.sum.result c.requires.scope.same c.joint.ensures.members c.sum.ensures

treated_is : (c : After-sum) → c.sum-treated.result ≡ treated (weights_in c.args.scope.now.n c.args.scope.now.counts.now) (asked_of c.args.scope.now.question) (cell_of c.args.cell.now)
treated_is c = sum_is c.args.scope.now.counts.now c.args.scope.now.sums.now c.treated.result.bits (treated_set (asked_of c.args.scope.now.question)) c.args.cell.now
    c.sum-treated.result c.requires.scope.same c.treated.ensures c.sum-treated.ensures

pub invariant_of-result : goal.invariant_of-result
invariant_of-result c =
    let at = (goal.at.invariant_of-result c).After-sum in
    let n = c.args.scope.now.n in let t = c.args.scope.now.counts.now in let q = asked_of c.args.scope.now.question in let s = cell_of c.args.cell.now in
    let j = joint_is at in let x = treated_is at in let a = joint_less n t q s in let most = small t c.requires.scope.table (treated_set q) s in
    let some = c.if-treated-eq0.false in
    record { positive = omega (arith, some); at_most_four = omega (arith, j, x, a); small = omega (arith, x, most) }

pub returns : goal.returns
returns c =
    let at = (goal.at.returns c).After-sum in
    let x = treated_is at in
    ap₂ over (joint_is at) x
    ∙ adjusted_said c.args.end (weights_in c.args.scope.now.n c.args.scope.now.counts.now) (asked_of c.args.scope.now.question) (cell_of c.args.cell.now)
    (λ z. c.if-treated-eq0.false (x ∙ z))
