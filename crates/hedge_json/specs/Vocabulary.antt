-- What other crates cite of this one, from one place.
pub use Rattle.hedge_json.specs.Hedges.{choice_json, choices_json, hedge_json, link_json, links_json}
pub use Rattle.hedge_json.specs.Models.{bit_json, bit_members, bits_json, cause_json, cause_term, event_json, mechanism_values, models_json, part_values, terms_json, vertex_values}
