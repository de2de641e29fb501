pub mod Down
pub mod FaultPlaces
pub mod Iterations
