use Rattle.std.proofs.Common.{◌≡◌, ap₂, arith}
use Rattle.fractions.specs.Vocabulary.{over}
use Rattle.count_eval.specs.Vocabulary.{weights_in, cell_of}
use Rattle.natural_bounds.specs.Vocabulary.{joint}
use Rattle.bound_values.specs.Questions.{asked_of, joint_set, level_set}
use Rattle.bound_values.proofs.Sums.{sum_is, joint_less, treated_less, small}
use Rattle.bound_values.proofs.cells.least_bound.Goals as goal
use Rattle.bound_values.proofs.cells.least_bound.Goals.{After-sum-joint}

joint_is : (c : After-sum-joint) → c.sum-joint.result ≡ joint (weights_in c.args.scope.now.n c.args.scope.now.counts.now) (asked_of c.args.scope.now.question) (cell_of c.args.cell.now)
joint_is c = sum_is c.args.scope.now.counts.now c.args.scope.now.sums.now c.joint.result.bits (joint_set (asked_of c.args.scope.now.question)) c.args.cell.now
    c.sum-joint.result c.requires.scope.same c.joint.ensures.members c.sum-joint.ensures

pub invariant_of-result : goal.invariant_of-result
invariant_of-result c =
    let n = c.args.scope.now.n in let t = c.args.scope.now.counts.now in let q = asked_of c.args.scope.now.question in let s = cell_of c.args.cell.now in
    let j = joint_is (goal.at.invariant_of-result c).After-sum-joint in
    let a = joint_less n t q s in let b = treated_less n t q s in let most = small t c.requires.scope.table (level_set q) s in
    let records = c.requires.records in
    record {
      positive = c.requires.some;
      at_most_four = omega (arith, j, a, b, records);
      small = omega (arith, most, records);
    }

pub returns : goal.returns
returns c = ap₂ over (joint_is (goal.at.returns c).After-sum-joint) c.requires.records
