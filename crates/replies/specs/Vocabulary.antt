-- What other crates cite of this one, from one place.
pub use Rattle.replies.specs.Command.{CommandForm, IsLeft, Remainder, on_file, on_two_inputs, on_two_inputs_where, on_words}
pub use Rattle.replies.specs.Lines.{open_text, query_text}
pub use Rattle.replies.specs.Observed.{HoldsDiagram, HoldsGraph}
pub use Rattle.replies.specs.OneOutcome.{IsAnswerOn}
pub use Rattle.replies.specs.Outcomes.{IsAnswered, code_of}
pub use Rattle.replies.specs.Refusals.{IsGraphRefusal, faulty, graph_told, size_told, target_told, too_long}
pub use Rattle.replies.specs.Told.{answer_of, format_of, refusal_of, text_in, told_of}
