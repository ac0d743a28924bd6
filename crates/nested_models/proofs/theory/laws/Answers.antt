use Rattle.nested_models.proofs.theory.laws.Goals as goal
use Rattle.nested_models.proofs.Held.{nested_is_held}
use Rattle.nested_models.proofs.Effects.{one_value_is_effect, no_indirect_path_is_effect, no_direct_path_is_effect}
use Rattle.nested_models.proofs.Product.{nested_is_product}
use Rattle.nested_models.proofs.Witnesses.{no_witness_tells_apart, witness_leaves_none}
use Rattle.nested_models.proofs.NoFormula.{difference_excludes_nested, effect_excludes_nested}

pub returns-clause-held : goal.returns-clause-held
returns-clause-held c = nested_is_held

pub returns-clause-one_value : goal.returns-clause-one_value
returns-clause-one_value c = one_value_is_effect

pub returns-clause-no_indirect : goal.returns-clause-no_indirect
returns-clause-no_indirect c = no_indirect_path_is_effect

pub returns-clause-no_direct : goal.returns-clause-no_direct
returns-clause-no_direct c = no_direct_path_is_effect

pub returns-clause-tells_apart : goal.returns-clause-tells_apart
returns-clause-tells_apart c = no_witness_tells_apart

pub returns-clause-leaves_none : goal.returns-clause-leaves_none
returns-clause-leaves_none c = witness_leaves_none

pub returns-clause-product : goal.returns-clause-product
returns-clause-product c = nested_is_product

pub returns-clause-excludes : goal.returns-clause-excludes
returns-clause-excludes c = difference_excludes_nested

pub returns-clause-effect_excludes : goal.returns-clause-effect_excludes
returns-clause-effect_excludes c = effect_excludes_nested
