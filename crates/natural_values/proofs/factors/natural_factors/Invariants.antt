use Rattle.std.proofs.Common.{◌≡◌, map}
use Rattle.natural_id.specs.Vocabulary.{parts_view}
use Rattle.factor_values.specs.Vocabulary.{factor_view}
use Rattle.natural_values.specs.Factors.{factor_of_part}
use Rattle.natural_values.proofs.factors.natural_factors.Given as goal

abbrev pub invariant-loop-part : goal.invariant-loop-part
invariant-loop-part l = map factor_view l.factors.items ≡ map factor_of_part (parts_view l.yielded)
