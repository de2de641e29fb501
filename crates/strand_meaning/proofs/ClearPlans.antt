pub mod FreeNames
pub mod ClearOfValid
