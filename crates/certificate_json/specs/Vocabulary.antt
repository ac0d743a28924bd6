-- What other crates cite of this one, from one place.
pub use Rattle.certificate_json.specs.Certificates.{certificate_json, certificate_line, certificate_text, expr_json}
pub use Rattle.certificate_json.specs.Kept.{IsShort, are_steps_short}
pub use Rattle.certificate_json.specs.StepSizes.{are_below, are_short, are_within, groups_below, is_move_short, is_move_within, is_short, is_within}
pub use Rattle.certificate_json.specs.Steps.{step_json}
pub use Rattle.certificate_json.specs.Writable.{AreStepsShallow, IsBareTarget, IsDerivationWithin, IsFormulaShallow, IsHedgeWithin, IsTargetWithin, IsWritable, are_steps_within}
pub use Rattle.certificate_json.specs.PartCertificates.{ArePartsShallow, ArePartsWithin, IsPartTarget, IsPartWithin, IsPartWritable, are_parts_short, part_certificate_json, part_certificate_line, part_certificate_text, parts_of}
