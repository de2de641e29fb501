pub mod Shapes
pub mod Scripts
