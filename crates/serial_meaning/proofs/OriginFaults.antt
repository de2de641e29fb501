pub mod Levels
pub mod Callees
pub mod Origins
pub mod Scopes
