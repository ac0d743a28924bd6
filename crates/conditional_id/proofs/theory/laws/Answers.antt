use Rattle.conditional_id.proofs.Settling.{joint_settles_target}
use Rattle.conditional_id.proofs.Answered.{conditional_is_derived, conditional_is_right, conditional_is_shallow, derived_is_conditional}
use Rattle.conditional_id.proofs.Answered.{divided_is_accepted, joint_excludes_formula, joint_has_hedge, one_conditional, one_conditional_derivation}
use Rattle.conditional_id.proofs.Answered.{one_turned, turned_is_same, turned_is_target}
use Rattle.conditional_id.proofs.theory.laws.Goals as goal

pub returns : goal.returns
returns c = record {
  derived = derived_is_conditional;
  derivation = conditional_is_derived;
  right = conditional_is_right;
  shallow = conditional_is_shallow;
  accepted = divided_is_accepted;
  same = turned_is_same;
  target = turned_is_target;
  hedge = joint_has_hedge;
  excludes = joint_excludes_formula;
  settles = joint_settles_target;
  one_turned = one_turned;
  one_formula = one_conditional;
  one_derivation = one_conditional_derivation;
}
