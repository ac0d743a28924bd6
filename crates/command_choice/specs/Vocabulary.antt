-- What other crates cite of this one, from one place.
pub use Rattle.command_choice.specs.Choice.{NoWordsAskBoth, OneOf, first, one_of, second}
