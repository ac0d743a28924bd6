-- What other crates cite of this one, from one place.
pub use Rattle.treated_models.specs.Chain.{HasParents, IsAround, IsFree, IsLast, read_near, with_one, without}
pub use Rattle.treated_models.specs.NamedOnce.{AllNameOnce, EachNamesOnce, FormulaNamesOnce, IsSingle, NamesOnce}
pub use Rattle.treated_models.specs.NoFormula.{DifferAmong, HasNoFormulaAmong}
pub use Rattle.treated_models.specs.Primes.{EqualsAmong, as_observed, name_count, plain_in, prime_of, primed_in, vertex_of, with_primes}
pub use Rattle.treated_models.specs.Treated.{AreFree, AreUnjoined, IsBefore, effect_among, factor_of, factors_of, held, is_both, is_in, joined, obeyed, read_at, weight_of_both}
pub use Rattle.treated_models.specs.TwoValues.{IsOtherValue}
