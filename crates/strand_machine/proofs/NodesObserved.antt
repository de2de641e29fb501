pub mod Probes
pub mod Observing
