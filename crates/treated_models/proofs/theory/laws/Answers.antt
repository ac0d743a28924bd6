use Rattle.treated_models.proofs.TwoValues.{two_values_split}
use Rattle.treated_models.proofs.theory.laws.Goals as goal
use Rattle.treated_models.proofs.Held.{treated_is_held, untouched_factors}
use Rattle.treated_models.proofs.Sum.{effect_is_sum}
use Rattle.treated_models.proofs.Apart.{apart_sets_multiply}
use Rattle.treated_models.proofs.Districts.{districts_multiply}
use Rattle.treated_models.proofs.Factor.{factor_is_effect, held_event_is_sum}
use Rattle.treated_models.proofs.Product.{treated_is_product}
use Rattle.treated_models.proofs.Differing.{among_fixes_effect}
use Rattle.treated_models.proofs.Chain.{next_factor, first_factor}
use Rattle.treated_models.proofs.Joint.{joint_effect_is_sum, among_fixes_joint}
use Rattle.treated_models.proofs.NamedOnce.{observed_fixes_named}
use Rattle.treated_models.proofs.NoFormula.{difference_excludes_among, differing_excludes_among}

pub returns-clause-held : goal.returns-clause-held
returns-clause-held c = treated_is_held

pub returns-clause-sum : goal.returns-clause-sum
returns-clause-sum c = effect_is_sum

pub returns-clause-apart : goal.returns-clause-apart
returns-clause-apart c = apart_sets_multiply

pub returns-clause-factors : goal.returns-clause-factors
returns-clause-factors c = untouched_factors

pub returns-clause-districts : goal.returns-clause-districts
returns-clause-districts c = districts_multiply

pub returns-clause-effect : goal.returns-clause-effect
returns-clause-effect c = factor_is_effect

pub returns-clause-event : goal.returns-clause-event
returns-clause-event c = held_event_is_sum

pub returns-clause-product : goal.returns-clause-product
returns-clause-product c = treated_is_product

pub returns-clause-fixes : goal.returns-clause-fixes
returns-clause-fixes c = among_fixes_effect

pub returns-clause-next : goal.returns-clause-next
returns-clause-next c = next_factor

pub returns-clause-first : goal.returns-clause-first
returns-clause-first c = first_factor

pub returns-clause-joint : goal.returns-clause-joint
returns-clause-joint c = joint_effect_is_sum

pub returns-clause-joint_fixed : goal.returns-clause-joint_fixed
returns-clause-joint_fixed c = among_fixes_joint

pub returns-clause-observed : goal.returns-clause-observed
returns-clause-observed c = observed_fixes_named

pub returns-clause-excludes : goal.returns-clause-excludes
returns-clause-excludes c = difference_excludes_among

pub returns-clause-differing : goal.returns-clause-differing
returns-clause-differing c = differing_excludes_among

pub returns-clause-two : goal.returns-clause-two
returns-clause-two c = two_values_split
