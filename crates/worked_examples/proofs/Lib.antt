pub mod Detectors
pub mod Examples
