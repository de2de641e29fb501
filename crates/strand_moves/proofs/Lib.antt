pub mod Statements
pub mod Frames
pub mod OpenScopes
pub mod SpawnedChildren
pub mod Cursors
pub mod Shares
