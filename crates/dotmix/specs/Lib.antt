pub mod Draws
pub mod Words
pub mod GammaState
pub mod Laws
pub mod Trails
