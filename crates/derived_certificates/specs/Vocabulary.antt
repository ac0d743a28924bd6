-- What other crates cite of this one, from one place.
pub use Rattle.derived_certificates.specs.Certificates.{IsNaturalCertificate, IsPartReadBack, IsTreatedCertificate}
pub use Rattle.derived_certificates.specs.Forms.{certified_form}
