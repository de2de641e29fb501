pub mod LeftStatements
pub mod FoundParts
pub mod FoundMoves
