-- What other crates cite of this one, from one place.
pub use Rattle.answer_text.specs.Lines.{line_of, second}
pub use Rattle.answer_text.specs.Notations.{by_notation, sign_text}
pub use Rattle.answer_text.specs.Printing.{begins_with_arrow, is_bare, is_edge_byte, is_name_byte, is_plain, is_plain_byte, is_sign, is_white, printed}
pub use Rattle.answer_text.specs.Texts.{comma_before, conditions_in, member_names, names_in, path_text, set_in, set_text, term_in, term_text}
