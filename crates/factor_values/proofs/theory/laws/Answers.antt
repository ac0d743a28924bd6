use Rattle.factor_values.proofs.Covering.{factors_are_covered}
use Rattle.factor_values.proofs.Matching.{matched_covers_factors}
use Rattle.factor_values.proofs.theory.laws.Goals as goal

pub returns-clause-covered : goal.returns-clause-covered
returns-clause-covered g c = factors_are_covered g.Q.Quantity.kind g.Q.Quantity.covers g.met.Q.Quantity.lawful

pub returns-clause-matched : goal.returns-clause-matched
returns-clause-matched g c = matched_covers_factors g.Q.Quantity.kind g.Q.Quantity.covers g.met.Q.Quantity.lawful
