-- What other crates cite of this one, from one place.
pub use Rattle.primed_questions.specs.Refusals.{acted_on_told, many_told}
