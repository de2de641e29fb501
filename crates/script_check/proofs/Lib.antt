pub mod LeastViolation
pub mod Tables
pub mod Walk
pub mod FewerPending
pub mod FoundSlots
