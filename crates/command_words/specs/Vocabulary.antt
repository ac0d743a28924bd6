-- What other crates cite of this one, from one place.
pub use Rattle.command_words.specs.Asks.{AsksBy}
pub use Rattle.command_words.specs.Form.{IsCall, Row, Text, Use, has_flag, is_among, is_clear, row_named, value_names, value_of, word_of}
pub use Rattle.command_words.specs.Gives.{HoldsCall}
pub use Rattle.command_words.specs.ListViews.{names_in}
pub use Rattle.command_words.specs.Lists.{IsItems, IsList, Item, bare, is_bare_byte, is_braced, is_item, is_quoted_byte, is_some_text, list_text, more_text, quoted, text_of, unbraced}
pub use Rattle.command_words.specs.Readable.{AreReadable, IsReadable}
pub use Rattle.command_words.specs.Values.{AreTwoInputs, IsListed, IsListedOrEmpty, IsRequiredList, IsRequiredNumber}
pub use Rattle.command_words.specs.Views.{row_of, texts_of}
