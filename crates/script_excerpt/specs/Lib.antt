-- What is shown of a fault: its position as editors count, the word that fits there, and what surrounds it.
pub mod Excerpts
pub mod Followers
pub mod Places
pub mod Slips
