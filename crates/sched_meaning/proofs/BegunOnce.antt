pub mod Begun
pub mod Shows
pub mod Presents
pub mod Starts
pub mod Regions
pub mod Changing
pub mod Loads
pub mod Once
