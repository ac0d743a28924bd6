-- What other crates cite of this one, from one place.
pub use Rattle.nested_models.specs.Nested.{HasNoDirectPath, HasNoIndirectPath, IsNestedQuery, IsRecantingWitness, LeadsPast, LeadsThrough, ReadOneEach, Reader, TellsApart, is_nested, nested_effect, sets_of, weight_of_nested, weights_read}
pub use Rattle.nested_models.specs.NoFormula.{EqualsNested, HasNoFormulaNested}
pub use Rattle.nested_models.specs.Split.{IsSplitDistrict}
