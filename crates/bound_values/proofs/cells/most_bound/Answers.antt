use Rattle.std.proofs.Common.{ℕ, ◌≡◌, ◌≤◌, ◌+◌, ◌-◌, ap₂, arith}
use Rattle.fractions.specs.Vocabulary.{over}
use Rattle.count_eval.specs.Vocabulary.{weights_in, cell_of}
use Rattle.natural_bounds.specs.Vocabulary.{joint, treated}
use Rattle.bound_values.specs.Questions.{asked_of, joint_set, treated_set, level_set}
use Rattle.bound_values.proofs.Sums.{sum_is, joint_less, treated_less, small}
use Rattle.bound_values.proofs.cells.most_bound.Goals as goal
use Rattle.bound_values.proofs.cells.most_bound.Goals.{After-sum-treated}

-- the sums of the table, in order
record AreSums (j x a : ℕ) : Type 0 where
  joint : j ≤ x
  treated : x ≤ a
  small : a ≤ 1000000000000000

joint_is : (c : After-sum-treated) → c.sum-joint.result ≡ joint (weights_in c.args.scope.now.n c.args.scope.now.counts.now) (asked_of c.args.scope.now.question) (cell_of c.args.cell.now)
joint_is c = sum_is c.args.scope.now.counts.now c.args.scope.now.sums.now c.joint.result.bits (joint_set (asked_of c.args.scope.now.question)) c.args.cell.now
    c.sum-joint.result c.requires.scope.same c.joint.ensures.members c.sum-joint.ensures

treated_is : (c : After-sum-treated) → c.sum-treated.result ≡ treated (weights_in c.args.scope.now.n c.args.scope.now.counts.now) (asked_of c.args.scope.now.question) (cell_of c.args.cell.now)
treated_is c = sum_is c.args.scope.now.counts.now c.args.scope.now.sums.now c.treated.result.bits (treated_set (asked_of c.args.scope.now.question)) c.args.cell.now
    c.sum-treated.result c.requires.scope.same c.treated.ensures c.sum-treated.ensures

in_order : (c : After-sum-treated) → AreSums c.sum-joint.result c.sum-treated.result c.args.records
in_order c =
    let n = c.args.scope.now.n in let t = c.args.scope.now.counts.now in let q = asked_of c.args.scope.now.question in let s = cell_of c.args.cell.now in
    let j = joint_is c in let x = treated_is c in let records = c.requires.records in
    let a = joint_less n t q s in let b = treated_less n t q s in let most = small t c.requires.scope.table (level_set q) s in
    record { joint = omega (arith, j, x, a); treated = omega (arith, x, b, records); small = omega (arith, most, records) }

pub overflow_sub-result : goal.overflow_sub-result
overflow_sub-result c = (in_order (goal.at.overflow_sub-result c).After-sum-treated).treated

pub overflow_add-result : goal.overflow_add-result
overflow_add-result c = let o = in_order (goal.at.overflow_add-result c).After-sum-treated in
    let a = o.joint in let b = o.treated in let d = o.small in omega (arith, a, b, d)

pub invariant_of-result : goal.invariant_of-result
invariant_of-result c =
    let o = in_order (goal.at.invariant_of-result c).After-sum-treated in
    let a = o.joint in let b = o.treated in let d = o.small in
    record { positive = c.requires.some; at_most_four = omega (arith, a, b); small = omega (arith, d) }

pub returns : goal.returns
returns c =
    let at = (goal.at.returns c).After-sum-treated in
    ap₂ over (ap₂ (λ (j m : ℕ). j + m) (joint_is at) (ap₂ (λ (a x : ℕ). a - x) c.requires.records (treated_is at))) c.requires.records
