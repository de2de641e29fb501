pub mod Fewer
pub mod FewerStatements
pub mod Linear
pub mod Induction
