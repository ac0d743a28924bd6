pub mod Steps
pub mod StepSizes
pub mod Certificates
pub mod Writable
pub mod Kept
pub mod ReadsBack
pub mod PartCertificates
pub mod Vocabulary
