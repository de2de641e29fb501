pub mod History
pub mod Accounts
pub mod Ends
pub mod Steps
pub mod Answers
