pub mod BegunOnce
pub mod SimulationsEnd
pub mod KeptByEvents
pub mod WorkGoesOn
pub mod OneCore
pub mod Computed
pub mod Segments
