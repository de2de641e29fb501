pub mod Listing
pub mod Picking
pub mod Unlawful
pub mod PickedSteps
