pub mod Version
pub mod Word
pub mod Lexing
pub mod Laws
