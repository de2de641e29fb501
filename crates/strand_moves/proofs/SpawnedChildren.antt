pub mod ChildLemmas
pub mod EndSyncs
pub mod Items
pub mod Spawning
pub mod Waiting
