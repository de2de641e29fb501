pub mod Ascii
pub mod Judged
pub mod Unique
pub mod First
