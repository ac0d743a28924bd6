-- What other crates cite of this one, from one place.
pub use Rattle.command_run.specs.Answers.{Defined, DefinedWith, DiagramAnswer, GivesOn, GivesOnWords, HoldsAnswer, SecondAnswer, WordsAnswer}
pub use Rattle.command_run.specs.Commands.{AreApart, Asks, AsksNothing, CommandSet, HasFormat, IsRequest, Request, command_of, file_of, of, second_of}
pub use Rattle.command_run.specs.Complete.{InputsAreKnown, IsExact, NothingFailed, WordsAskOnce}
pub use Rattle.command_run.specs.Ends.{Delivers, EndsWith, IsInFormat, IsTextOf, RepliesWith, Stays, shown_of, silent, text_of, told_as, written}
pub use Rattle.command_run.specs.Laws.{AreLawful}
pub use Rattle.command_run.specs.Lines.{words_line}
pub use Rattle.command_run.specs.Run.{Ended, ReadsAsAsked, ReadsName, Received, Stream, by_both, by_file, by_words, file, reads_of, run_on, run_with, second, stream_of}
