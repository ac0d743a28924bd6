-- What other crates cite of this one, from one place.
pub use Rattle.identify_text.specs.Answers.{answer_in, effect_term, free_beside}
pub use Rattle.identify_text.specs.HedgeLines.{choice_line, choice_lines, chooses, heading_text, link_line, link_lines, sets_line, unidentifiable_line}
pub use Rattle.identify_text.specs.ModelLines.{bit_text, bits_of, cause_line, cause_lines, cause_text, mechanism_lines, part_line, sum_text, terms_of, vertex_lines, vertex_text, weights_text}
pub use Rattle.identify_text.specs.PairLines.{event_line, hedge_answer, joint_answer, models_text}
