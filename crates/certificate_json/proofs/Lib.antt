mod CertificatesBack
mod CertificatesSeen
mod FormulasBack
mod HedgesBack
pub mod Keeping
pub mod Members
mod NamesBack
mod Pairs
pub mod PartsBack
pub mod ReadsBack
mod Seen
mod SetsBack
mod StepsBack
mod StepsSeen
mod Utf8
mod Values
