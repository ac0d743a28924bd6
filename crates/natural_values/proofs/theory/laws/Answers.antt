use Rattle.natural_values.proofs.Equal.{factors_equal_natural}
use Rattle.natural_values.proofs.Covering.{factors_cover_nested}
use Rattle.natural_values.proofs.theory.laws.Goals as goal

pub returns-clause-equal : goal.returns-clause-equal
returns-clause-equal g c = factors_equal_natural

pub returns-clause-covers : goal.returns-clause-covers
returns-clause-covers g c = factors_cover_nested g.Q.Quantity.kind g.Q.Quantity.covers g.met.Q.Quantity.lawful
