-- What other crates cite of this one, from one place.
pub use Rattle.answer_json.specs.Faults.{fault_begun, fault_json}
pub use Rattle.answer_json.specs.Progress.{IsWhole, array_of, ended_array, ended_object, items, items_of, members, members_of, nothing, object_of, value_of, with_key, with_member, with_members, with_value, with_values}
pub use Rattle.answer_json.specs.Values.{pair_json, pairs_json, path_json, query_members, set_json, sets_json, text_json, vertex_json, vertices_json}
-- These may be unfolded there.
unfoldable pub use Rattle.answer_json.specs.Faults.{bare_fault_json, names_fault_json, number_fault_json, placed_fault_json, text_fault_json}
-- These may be unfolded there.
unfoldable pub use Rattle.answer_json.specs.Progress.{json_line}
