-- What other crates cite of this one, from one place.
pub use Rattle.check_json.specs.CertificateFaults.{certificate_fault_json, certificate_size_json}
pub use Rattle.check_json.specs.Refusals.{derivation_members, hedge_fault_members, met_members}
