pub mod Before
pub mod Earlier
pub mod Whole
