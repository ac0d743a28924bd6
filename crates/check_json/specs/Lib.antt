pub mod CertificateFaults
pub mod Refusals
pub mod Vocabulary
