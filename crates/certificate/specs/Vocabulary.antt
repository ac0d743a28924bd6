-- What other crates cite of this one, from one place.
pub use Rattle.certificate.specs.FaultTexts.{cert_fault_text, cert_size_text, key_text}
pub use Rattle.certificate.specs.Faults.{Fails, at_key, or_fault, ◌>>=◌}
pub use Rattle.certificate.specs.HedgeReading.{alone, first_by, link_of, more_choices, more_links, unchosen, with_choice}
pub use Rattle.certificate.specs.Plain.{PlainCertificate, PlainHedge, PlainPartCertificate, certificate_view, formula, hedge, hedge_view, links_view, natural, part_certificate_view, treated}
pub use Rattle.certificate.specs.PartReading.{more_parts, part_answer_in, part_list_in, parts_in}
pub use Rattle.certificate.specs.Reading.{answer_in, def_in, is_answer, is_version, json_of, key_count, lemma_items, lemma_of, main_in, member_by, member_count, more_defs, sound, whole}
-- These may be unfolded there.
unfoldable pub use Rattle.certificate.specs.HedgeReading.{choice_in, links_in}
-- These may be unfolded there.
unfoldable pub use Rattle.certificate.specs.Reading.{certificate_in, defs_in, derivation_in, expr_in, formula_certificate_in, formula_in, given_in, hedge_certificate_in, hedge_in, lemma_in, lemmas_in, target_in, value_certificate, version_in}
-- These may be unfolded there.
unfoldable pub use Rattle.certificate.specs.PartReading.{natural_certificate_in, part_certificate_in, part_in, part_target_in, part_value_certificate, treated_certificate_in}
