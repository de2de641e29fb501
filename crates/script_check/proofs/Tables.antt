pub mod Entries
pub mod Indexed
pub mod Shares
pub mod SlotIndex
