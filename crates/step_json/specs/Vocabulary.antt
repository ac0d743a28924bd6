-- What other crates cite of this one, from one place.
pub use Rattle.step_json.specs.Reading.{Gives, argument, arguments, each, filled, filled_set_in, is_end, last, list_by, more_of_set, more_vertices, or_form, step_in, vertex_in, vertex_of, with_member, ◌>>=◌}
pub use Rattle.step_json.specs.Words.{or_bare, or_set}
-- These may be unfolded there.
unfoldable pub use Rattle.step_json.specs.Reading.{groups_in, number_in, numbers_in, set_in, step_within, vertices_in}
-- These may be unfolded there.
unfoldable pub use Rattle.step_json.specs.Words.{other_word_of, word_of}
