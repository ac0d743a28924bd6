use Rattle.named_factors.proofs.Among.{factors_cover_among}
use Rattle.named_factors.proofs.Naming.{factors_equal_named}
use Rattle.named_factors.proofs.Shaping.{treated_is_sum_of_terms}
use Rattle.named_factors.proofs.theory.laws.Goals as goal

pub returns-clause-equal : goal.returns-clause-equal
returns-clause-equal g c = factors_equal_named

pub returns-clause-shape : goal.returns-clause-shape
returns-clause-shape g c = treated_is_sum_of_terms

pub returns-clause-covers : goal.returns-clause-covers
returns-clause-covers g c = factors_cover_among g.Q.Quantity.kind g.Q.Quantity.covers g.met.Q.Quantity.lawful
